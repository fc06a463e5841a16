-- What the query of diagnostics asks and ends in, by the answers that it reads.
use Rattle.std.proofs.Common.{◌≡◌, ℕ, Bool, true, false, List, [], ◌∷◌, refl, ap, subst}
use Rattle.pq_rules.specs.declared.turn.Turn.{Turn}
use Rattle.pq_rules.specs.declared.turn.Turn.TheVariants.{Done}
use Rattle.pq_rules.specs.Embedding.{Runs}
use Rattle.pq_links.specs.declared.files.ParsedFile.{ParsedFile}
use Rattle.pq_checks.specs.Diagnostics.{diagnosed, has_tree, AsksErrors, AreDiagnosticsBy}
use Rattle.pq_checks.specs.aux.DiagnosticsTurns.{diagnostics_starts, diagnostics_advances, file_turn}
use Rattle.pq_checks.specs.declared.errors.diagnostic.Diagnosed.{Diagnosed}
use Rattle.pq_checks.specs.declared.queries.diagnostics.DiagnosticsPart.{DiagnosticsPart}
use Rattle.pq_checks.specs.declared.queries.diagnostics.DiagnosticsPart.TheVariants.{ReadChecks, ReadFile}
use Rattle.pq_checks.specs.declared.errors.fault.Fault.{Fault}

module _ {K A : Type 0} (checks parse : List ℕ → K) (checked : A → List Fault) (parsed : A → ParsedFile) where
  abbrev next : DiagnosticsPart → A → Turn K DiagnosticsPart Diagnosed
  next q a = diagnostics_advances checks (checked a) (parsed a) q

  -- `Ends f file tree es d` is that the errors, if the rule asks them, are answered, and `d` is the
  -- diagnostics by them
  abbrev Ends : List ℕ → ParsedFile → Bool → List (K × A) → Diagnosed → Type 0
  Ends f file tree es d = (fs : List Fault) × AsksErrors checks checked f tree es fs × (d ≡ diagnosed fs file)

  ends : (f : List ℕ) (file : ParsedFile) (tree : Bool) (es : List (K × A)) (d : Diagnosed) → Runs next (file_turn checks f file tree) es (Done d) → Ends f file tree es d
  unfolding Runs
  ends f file true [] d r = cc
  ends f file true (e ∷ []) d r =
      let asks = r.1 in
      let key : e.0 ≡ checks f = cc in
      let part : r.0 ≡ ReadChecks file = cc in
      let last = subst (λ (q : DiagnosticsPart). Runs next (next q e.1) [] (Done d)) part r.2 in
      let is : d ≡ diagnosed (checked e.1) file = cc in
      (checked e.1, (e.1, ap (λ (k : K). (k, e.1) ∷ []) key, refl), is)
  ends f file true (e ∷ (g ∷ gs)) d r =
      let asks = r.1 in
      let part : r.0 ≡ ReadChecks file = cc in
      let more = subst (λ (q : DiagnosticsPart). Runs next (next q e.1) (g ∷ gs) (Done d)) part r.2 in
      let none = more.1 in cc
  ends f file false [] d r =
      let is : d ≡ diagnosed [] file = cc in
      ([], (refl, refl), is)
  ends f file false (e ∷ es) d r = let none = r.1 in cc

  pub diagnostics_given : (f : List ℕ) (es : List (K × A)) (d : Diagnosed) → Runs next (diagnostics_starts parse f) es (Done d) → AreDiagnosticsBy checks parse checked parsed f es d
  unfolding Runs
  diagnostics_given f [] d r = cc
  diagnostics_given f (e ∷ es) d r =
      let asks = r.1 in
      let key : e.0 ≡ parse f = cc in
      let part : r.0 ≡ ReadFile f = cc in
      let on = subst (λ (q : DiagnosticsPart). Runs next (next q e.1) es (Done d)) part r.2 in
      let end = ends f (parsed e.1) (has_tree (parsed e.1)) es d on in
      (e.1, es, end.0, ap (λ (k : K). (k, e.1) ∷ es) key, end.1, end.2)
