use Rattle.std.proofs.Common.{◌≡◌, ◌∙◌, sym, subst}
use Rattle.pq_syntax.specs.Loose.{IsShown}
use Rattle.pq_syntax.specs.aux.Loosely.{loosely}
use Rattle.pq_syntax.proofs.OneShown.{loosely_is}
use Rattle.pq_syntax.proofs.loose.read_loosely.Goals as goal

pub returns-clause-exact : goal.returns-clause-exact
returns-clause-exact c = c.new.ensures ∙ c.in_ok-shown_among.ensures ∙ loosely_is c.args.text.now c.as_slice.result.now (c.as_slice.ensures.value ∙ c.in_ok-tokens.ensures)

pub returns-clause-shown : goal.returns-clause-shown
returns-clause-shown c =
    let e : c.new.result ≡ loosely c.args.text.now = c.new.ensures ∙ c.in_ok-shown_among.ensures ∙ loosely_is c.args.text.now c.as_slice.result.now (c.as_slice.ensures.value ∙ c.in_ok-tokens.ensures) in
    subst (IsShown c.args.text.now) (sym e) (c.each_shown.ensures c.args.text.now)
