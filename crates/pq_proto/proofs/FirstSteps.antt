-- The table of the first reference of each item: what it says, and one step of how it is made.
use Rattle.std.proofs.Common.{◌≡◌, ℕ, suc, ◌+◌, ◌<◌, ◌≤◌, Bool, true, false, cond, ◌&&◌, nat_eq, length, get_or, drop, List, [], ◌∷◌, refl, sym, ap, ◌∙◌, arith, add-zero}
use Rattle.std.specs.Prelude.{slice_get}
use Rattle.std.specs.Option.{option_map_or}
use Rattle.std.proofs.lemmas.List.{drop_all, drop_more}
use Rattle.pq_links.specs.declared.places.TypePart.{TypePart}
use Rattle.pq_schema.specs.declared.queries.resolved.ResolvedReference.{ResolvedReference}
use Rattle.pq_proto.specs.Types.{TypeOf, is_part, no_type, referred, type_to}
use Rattle.pq_proto.specs.aux.Firsts.{first_at, IsFirsts}

-- the type to which the reference at `k` resolves
abbrev pub at_index : List ResolvedReference → ℕ → TypeOf
at_index refs k = option_map_or (λ (r : ResolvedReference). type_to r.resolution) (slice_get refs k) no_type

either_first : (b : Bool) (r : ResolvedReference) (rs : List ResolvedReference) (k : ℕ)
    → cond b (type_to r.resolution) (at_index rs k) ≡ at_index (r ∷ rs) (cond b 0 (suc k))
either_first true r rs k = refl
either_first false r rs k = refl

-- a reference is that at the first index
pub first_is : (refs : List ResolvedReference) (n : ℕ) (part : TypePart) → referred refs n part ≡ at_index refs (first_at refs n part)
unfolding referred first_at
first_is [] n part = refl
first_is (r ∷ rs) n part =
    let b = nat_eq r.item n && is_part r.part part in
    ap (λ (t : TypeOf). cond b (type_to r.resolution) t) (first_is rs n part) ∙ either_first b r rs (first_at rs n part)

-- `KnownFrom refs part count index firsts` is that `firsts` are the first indexes of the first
-- `count` items among the references from `index` on
pub record KnownFrom (refs : List ResolvedReference) (part : TypePart) (count index : ℕ) (firsts : List ℕ) : Type 0 where
  pub len : length firsts ≡ count
  pub within : index ≤ length refs
  pub each : (n : ℕ) → n < length firsts → get_or firsts n 0 ≡ index + first_at (drop index refs) n part

first_none : (n : ℕ) (part : TypePart) → first_at [] n part ≡ 0
unfolding first_at
first_none n part = refl

first_more : (r : ResolvedReference) (rs : List ResolvedReference) (n : ℕ) (part : TypePart)
    → first_at (r ∷ rs) n part ≡ cond (nat_eq r.item n && is_part r.part part) 0 (suc (first_at rs n part))
unfolding first_at
first_more r rs n part = refl

pub known_none : (refs : List ResolvedReference) (part : TypePart) (count : ℕ) (firsts : List ℕ)
    → length firsts ≡ count → ((n : ℕ) → n < length firsts → get_or firsts n 0 ≡ length refs) → KnownFrom refs part count (length refs) firsts
known_none refs part count firsts len all = record {
  len = len;
  within = omega arith;
  each = λ n l.
      let none : first_at (drop (length refs) refs) n part ≡ 0 =
      ap (λ (rs : List ResolvedReference). first_at rs n part) (drop_all (length refs) refs (omega arith)) ∙ first_none n part in
      let is = all n l in
      omega arith;
}

shift : (b : Bool) (i x : ℕ) → cond b i (i + 1 + x) ≡ i + cond b 0 (suc x)
shift true i x = sym (add-zero i)
shift false i x = omega arith

pub known_more : (refs : List ResolvedReference) (part : TypePart) (count index : ℕ) (old new : List ℕ) (r : ResolvedReference) → r ≡ get_or refs index r
    → length new ≡ length old
    → ((n : ℕ) → n < length old → get_or new n 0 ≡ cond (nat_eq r.item n && is_part r.part part) index (get_or old n 0))
    → KnownFrom refs part count (index + 1) old → KnownFrom refs part count index new
known_more refs part count index old new r is len puts so_far =
    let within = so_far.within in
    record {
      len = len ∙ so_far.len;
      within = omega arith;
      each = λ n l.
          let b = nat_eq r.item n && is_part r.part part in
          let rest = drop (index + 1) refs in
          let inner : n < length old = omega arith in
          let here : first_at (drop index refs) n part ≡ cond b 0 (suc (first_at rest n part)) =
          ap (λ (rs : List ResolvedReference). first_at rs n part) (drop_more refs index r (omega arith) ∙ ap (λ (x : ResolvedReference). x ∷ rest) (sym is)) ∙ first_more r rest n part in
          puts n inner ∙ ap (λ (x : ℕ). cond b index x) (so_far.each n inner) ∙ shift b index (first_at rest n part) ∙ ap (λ (x : ℕ). index + x) (sym here);
    }

pub known_all : (refs : List ResolvedReference) (part : TypePart) (count index : ℕ) (firsts : List ℕ) → index ≡ 0 → KnownFrom refs part count index firsts → IsFirsts refs part firsts
known_all refs part count index firsts none so_far = record {
  each = λ n l. so_far.each n l ∙ ap (λ (i : ℕ). i + first_at (drop i refs) n part) none ∙ omega arith;
}
