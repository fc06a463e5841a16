use Rattle.std.proofs.Common.{sym, ap, ◌∙◌}
use Rattle.std.specs.Option.{option_copied}
use Rattle.pq_view.specs.aux.Sights.{seen}
use Rattle.pq_view.proofs.Placing.{own_by_first, own_shut}
use Rattle.pq_view.proofs.sight.Sight.own_text.Goals as goal

pub returns-in_default : goal.returns-in_default
returns-in_default c = record { text = sym (own_shut (seen c.args.self.now) c.args.path.now (sym c.get.ensures.text ∙ ap option_copied c.in_default.is)) }

pub returns-in-Some-2 : goal.returns-in-Some-2
returns-in-Some-2 c = record { text = sym (own_by_first (seen c.args.self.now) c.args.path.now _ (sym (ap option_copied c.in-Some-2.is) ∙ c.in_ok-first_name.ensures.name)) }

pub returns-in-None : goal.returns-in-None
returns-in-None c = record {
  text = sym (ap option_copied c.in-Some.is) ∙ c.get.ensures.text
      ∙ sym (own_by_first (seen c.args.self.now) c.args.path.now _ (sym (ap option_copied c.in-None.is) ∙ c.in_ok-first_name.ensures.name));
}
