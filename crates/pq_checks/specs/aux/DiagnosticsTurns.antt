-- Auxiliary: the turns of the query of diagnostics, as functions of the key makers of a sum of
-- queries and of what the sum's readers say of an answer. The public law ties them to
-- `specs/Diagnostics`.
use Rattle.std.proofs.Common.{◌≡◌, ℕ, Bool, true, false, List, [], sym, subst, inl, arith}
use Rattle.pq_rules.specs.declared.turn.Turn.{Turn}
use Rattle.pq_rules.specs.declared.turn.Turn.TheVariants.{Ask, Done}
use Rattle.pq_rules.specs.Turns.{IsLower}
use Rattle.pq_links.specs.declared.files.ParsedFile.{ParsedFile}
use Rattle.std.specs.List.{cons_option}
use Rattle.pq_syntax.specs.declared.tree.Node.{Node}
use Rattle.pq_checks.specs.Diagnostics.{diagnosed, diagnostic_at, has_tree}
use Rattle.pq_checks.specs.declared.errors.diagnostic.Diagnosed.{Diagnosed}
use Rattle.pq_checks.specs.declared.errors.diagnostic.Diagnostic.{Diagnostic}
use Rattle.pq_checks.specs.declared.queries.diagnostics.DiagnosticsPart.{DiagnosticsPart}
use Rattle.pq_checks.specs.declared.queries.diagnostics.DiagnosticsPart.TheVariants.{ReadChecks, ReadFile}
use Rattle.pq_checks.specs.declared.errors.fault.Fault.{Fault}

-- `listed_at nodes f` lists the error `f` at the span of its place in the tree `nodes`, if it has one
abbrev pub listed_at : List Node → Fault → List Diagnostic
listed_at nodes f = cons_option (diagnostic_at nodes f) []

-- `diagnostics_level` is the level of the query's keys
abbrev pub diagnostics_level : ℕ
diagnostics_level = 9

-- `diagnostics_starts parse f` is the first turn of the diagnostics of the file `f`: it asks for what
-- that is read as
abbrev pub diagnostics_starts : {K : Type 0} → (List ℕ → K) → List ℕ → Turn K DiagnosticsPart Diagnosed
diagnostics_starts parse f = Ask (parse f) (ReadFile f)

-- `file_turn checks f file tree` is the turn of the file `f`, which is read as `file`, by whether that
-- is a `tree`
abbrev pub file_turn : {K : Type 0} → (List ℕ → K) → List ℕ → ParsedFile → Bool → Turn K DiagnosticsPart Diagnosed
file_turn checks f file true = Ask (checks f) (ReadChecks file)
file_turn checks f file false = Done (diagnosed [] file)

-- `diagnostics_advances checks faults file part` is the turn at `part` after an answer that says that
-- the file is read as `file`, or holds the errors `faults`
abbrev pub diagnostics_advances : {K : Type 0} → (List ℕ → K) → List Fault → ParsedFile → DiagnosticsPart → Turn K DiagnosticsPart Diagnosed
diagnostics_advances checks faults file (ReadFile f) = file_turn checks f file (has_tree file)
diagnostics_advances checks faults file (ReadChecks known) = Done (diagnosed faults known)

-- `diagnostics_left part` is what is left to ask at `part`
abbrev pub diagnostics_left : DiagnosticsPart → ℕ × ℕ
diagnostics_left (ReadFile f) = (1, 0)
diagnostics_left (ReadChecks file) = (0, 0)

file_falls : {K : Type 0} (checks : List ℕ → K) (f : List ℕ) (file : ParsedFile) (tree : Bool) (q : K) (r : DiagnosticsPart)
    → file_turn checks f file tree ≡ Ask q r → IsLower (diagnostics_left r) (1, 0)
file_falls checks f file true q r e =
    let part : r ≡ ReadChecks file = cc in
    subst (λ (x : DiagnosticsPart). IsLower (diagnostics_left x) (1, 0)) (sym part) (inl (omega arith))
file_falls checks f file false q r e = cc

-- each further question lowers what is left
pub diagnostics_falls : {K : Type 0} (checks : List ℕ → K) (faults : List Fault) (file : ParsedFile) (p : DiagnosticsPart) (q : K) (r : DiagnosticsPart)
    → diagnostics_advances checks faults file p ≡ Ask q r → IsLower (diagnostics_left r) (diagnostics_left p)
diagnostics_falls checks faults file (ReadFile f) q r e = file_falls checks f file (has_tree file) q r e
diagnostics_falls checks faults file (ReadChecks known) q r e = cc
