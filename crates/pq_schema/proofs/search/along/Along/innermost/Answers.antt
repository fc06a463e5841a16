use Rattle.std.proofs.Common.{◌≡◌, ◌-◌, ℕ, List, Option, Some, None, length, ap, subst, ◌∙◌}
use Rattle.std.specs.Prelude.{find, option_map}
use Rattle.pq_schema.specs.Definitions.{qualified}
use Rattle.pq_schema.specs.Resolution.{is_package, scopes}
use Rattle.pq_schema.specs.aux.Along.{Contents, IsLastStart}
use Rattle.pq_schema.proofs.AlongScopes.{innermost_is}
use Rattle.pq_schema.proofs.search.along.Along.innermost.Goals as goal

-- what the search of the table says, in the words of the contract
along_last : (table parts : List (List ℕ × ℕ)) (bytes name : List ℕ) (answer given : Option ℕ) → table ≡ parts → bytes ≡ name → answer ≡ given
    → IsLastStart table bytes answer → IsLastStart parts name given
along_last table parts bytes name answer given same text is last =
    subst (IsLastStart parts name) is (subst (λ (n : List ℕ). IsLastStart parts n answer) text (subst (λ (ps : List (List ℕ × ℕ)). IsLastStart ps bytes answer) same last))

pub returns-in-Some : goal.returns-in-Some
returns-in-Some c =
    let name = c.args.name.now in
    let parts = c.self.inside.parts.items in
    ap Some c.saturating_sub.ensures
    ∙ subst (λ (a : Contents). Some (c.in-Some.start - 1) ≡ option_map length (find (λ s. is_package a.files (qualified s name)) (scopes a.root))) c.self.view_is
    (innermost_is parts c.self.inside.files.now c.self.inside.root.now name (Some c.in-Some.start) c.self.invariant.0
    (record { some = c.requires.some; plain = c.requires.plain })
    (along_last c.deref.result.now parts c.as_bytes.result.now name c.last_start.result (Some c.in-Some.start) c.deref.ensures.value c.as_bytes.ensures.value c.in-Some.is c.last_start.ensures.last))

pub returns-in-None : goal.returns-in-None
returns-in-None c =
    let name = c.args.name.now in
    let parts = c.self.inside.parts.items in
    subst (λ (a : Contents). None ≡ option_map length (find (λ s. is_package a.files (qualified s name)) (scopes a.root))) c.self.view_is
    (innermost_is parts c.self.inside.files.now c.self.inside.root.now name None c.self.invariant.0
    (record { some = c.requires.some; plain = c.requires.plain })
    (along_last c.deref.result.now parts c.as_bytes.result.now name c.last_start.result None c.deref.ensures.value c.as_bytes.ensures.value c.in-None.is c.last_start.ensures.last))
