use Rattle.std.proofs.Common.{refl, sym, ap, ◌∙◌}
use Rattle.std.specs.Prelude.{cond, codes}
use Rattle.pq_syntax.specs.Tree.{import_kind_of}
use Rattle.std.specs.Str.{bytes_eq}
use Rattle.pq_syntax.specs.declared.terminal.Terminal.TheVariants.{ImportKindWord}
use Rattle.pq_syntax.specs.declared.tree.ImportKind.TheVariants.{Public, Weak}
use Rattle.pq_syntax.proofs.Steps.{reads_absent, reads_present}
use Rattle.pq_syntax.proofs.parser.files.parse_import_kind.Goals as goal

pub returns-then-not-looks_at : goal.returns-then-not-looks_at
returns-then-not-looks_at c = reads_absent _ ImportKindWord import_kind_of _ _ (sym c.if-not-looks_at.ensures) refl

pub returns-then-same : goal.returns-then-same
returns-then-same c =
    let public = c.if-same.ensures ∙ ap (λ b. bytes_eq b (codes "public")) c.spelling.ensures in
    reads_present _ ImportKindWord import_kind_of _ _ _ (sym c.if-not-looks_at.ensures) (ap (λ b. cond b Public Weak) public)

pub returns-else-same : goal.returns-else-same
returns-else-same c =
    let weak = c.if-same.ensures ∙ ap (λ b. bytes_eq b (codes "public")) c.spelling.ensures in
    reads_present _ ImportKindWord import_kind_of _ _ _ (sym c.if-not-looks_at.ensures) (ap (λ b. cond b Public Weak) weak)
