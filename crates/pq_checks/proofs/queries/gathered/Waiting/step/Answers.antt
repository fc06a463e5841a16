use Rattle.std.proofs.Common.{drop, sym, ap, ◌∙◌}
use Rattle.std.proofs.lemmas.List.{drop-drop}
use Rattle.pq_checks.proofs.queries.gathered.Waiting.step.Goals as goal

pub returns-then-self-as_slice : goal.returns-then-self-as_slice
returns-then-self-as_slice c = record { rest = sym (drop-drop 1 c.self.inside.passed c.self.inside.imports) ∙ ap (drop 1) c.self.view_is }
