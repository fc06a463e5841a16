use Rattle.std.proofs.Common.{◌∙◌}
use Rattle.std.proofs.lemmas.Result.{IfOk-weaker}
use Rattle.pq_lex.specs.aux.Reading.{reading_of}
use Rattle.pq_syntax.proofs.OneShown.{other_is}
use Rattle.pq_syntax.proofs.loose.is_other_version.Goals as goal

pub returns-clause-exact : goal.returns-clause-exact
returns-clause-exact c =
    IfOk-weaker c.is_other.result _ _
    (λ b h. h ∙ other_is c.args.text.now c.as_slice.result.now (reading_of c.in_ok-lexed.lexed) c.as_slice.ensures.value c.in_ok-lexed.ensures.exact)
    c.is_other.ensures
