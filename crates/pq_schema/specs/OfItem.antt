-- The resolved references of one item.
use Rattle.std.specs.Prelude.{ℕ, ◌≡◌, ◌++◌, List}
use Rattle.std.specs.List.{All}
use Rattle.pq_schema.specs.declared.queries.resolved.ResolvedReference.{ResolvedReference}

-- `item_of r` is the number of the item of the reference `r`
abbrev pub item_of : ResolvedReference → ℕ
item_of r = r.item

-- `IsOfAnother item r` is that the reference `r` is of another item than that of the number `item`
abbrev pub IsOfAnother : ℕ → ResolvedReference → Type 0
IsOfAnother item r = r.item ≡ item → ⊥

-- `IsOfItem references item part` is that `part` is what is left of `references` without some at the
-- start and some at the end, each of another item than that of the number `item`
pub record IsOfItem (references : List ResolvedReference) (item : ℕ) (part : List ResolvedReference) : Type 0 where
  pub before : List ResolvedReference
  pub after : List ResolvedReference
  pub is : references ≡ before ++ (part ++ after)
  pub others_before : All (IsOfAnother item) before
  pub others_after : All (IsOfAnother item) after
