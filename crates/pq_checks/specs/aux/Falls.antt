-- Auxiliary: each further question of the query lowers what is left (used by proofs and invariants
-- only). A law of a trait's impl may cite specs/ alone.
use Rattle.std.proofs.Common.{◌≡◌, ℕ, List, [], ◌∷◌, length, refl, sym, subst, inl, inr, arith}
use Rattle.std.specs.Prelude.{Option, Some, None, slice_get, unwrap_or}
use Rattle.pq_rules.specs.declared.turn.Turn.TheVariants.{Ask}
use Rattle.pq_rules.specs.Turns.{IsLower}
use Rattle.pq_links.specs.declared.links.Import.{Import}
use Rattle.pq_checks.specs.Answers.{CheckWords}
use Rattle.pq_checks.specs.aux.Queries.{link_next, staged, placed, with_state, link_follows, link_placed, check_advances, check_left}
use Rattle.pq_checks.specs.declared.queries.checked.CheckPart.{CheckPart}
use Rattle.pq_checks.specs.declared.queries.checked.CheckPart.TheVariants.{ReadItems, ReadImports, ReadLinks, ReadDefs, ReadScope, ReadReferences, ReadState, ReadNext}
use Rattle.pq_checks.specs.declared.queries.gathered.Known.{Known}
use Rattle.pq_checks.specs.declared.around.surroundings.Imported.{Imported}

-- a part that is known has what is left of it
left_at : (n : ℕ × ℕ) (r part : CheckPart) → r ≡ part → IsLower (check_left part) n → IsLower (check_left r) n
left_at n r part is low = subst (λ (x : CheckPart). IsLower (check_left x) n) (sym is) low

link_next_falls : {K : Type 0} (linked : List ℕ → K) (k : Known) (ring : Option (List (List ℕ))) (first : Option Import) (left : List Import) (imported : List Imported)
    (n : ℕ × ℕ) (q : K) (r : CheckPart) → IsLower (0, length k.linked.imports) n → placed k left imported (link_next linked k ring first imported) ≡ Ask q r → IsLower (check_left r) n
link_next_falls linked k (Some ring) (Some i) left imported n q r low e =
    let part : r ≡ ReadNext k k.linked.imports imported = cc in left_at n r _ part low
link_next_falls linked k (Some ring) None left imported n q r low e = cc
link_next_falls linked k None first left imported n q r low e = cc

staged_falls : {K : Type 0} (linked items : List ℕ → K) (k : Known) (next : Option Import) (left : List Import) (imported : List Imported)
    (n : ℕ × ℕ) (q : K) (r : CheckPart) → IsLower (1, length left) n → IsLower (0, length k.linked.imports) n
    → placed k left imported (staged linked items k next imported) ≡ Ask q r → IsLower (check_left r) n
staged_falls linked items k (Some i) left imported n q r low lower e =
    let part : r ≡ ReadState k left imported = cc in left_at n r _ part low
staged_falls linked items k None left imported n q r low lower e =
    link_next_falls linked k k.linked.ring (slice_get k.linked.imports 0) left imported n q r lower e

link_falls : {K : Type 0} (linked : List ℕ → K) (k : Known) (i : Import) (second : Option Import) (ring : Option (List (List ℕ))) (left : List Import) (imported : List Imported)
    (n : ℕ × ℕ) (q : K) (r : CheckPart) → IsLower (0, length left) n
    → link_placed k left imported (link_follows linked k (Some i) second ring imported) ≡ Ask q r → IsLower (check_left r) n
link_falls linked k i second (Some ring) left imported n q r low e = cc
link_falls linked k i (Some j) None left imported n q r low e =
    let part : r ≡ ReadNext k left imported = cc in left_at n r _ part low
link_falls linked k i None None left imported n q r low e = cc

pub check_falls : {K A : Type 0} (w : CheckWords K A) (a : A) (p : CheckPart) (q : K) (r : CheckPart)
    → check_advances w p a ≡ Ask q r → IsLower (check_left r) (check_left p)
check_falls w a (ReadItems f) q r e = let part : r ≡ ReadImports f (w.itemed a) = cc in left_at (7, 0) r _ part (inl (omega arith))
check_falls w a (ReadImports f p) q r e =
    let part : r ≡ ReadLinks f p (unwrap_or (w.imported a) []) = cc in left_at (6, 0) r _ part (inl (omega arith))
check_falls w a (ReadLinks f p is) q r e =
    let part : r ≡ ReadDefs (record { file = f; items = p; imports = is; ring = w.ring a }) = cc in left_at (5, 0) r _ part (inl (omega arith))
check_falls w a (ReadDefs l) q r e = let part : r ≡ ReadScope l (w.defined a) = cc in left_at (4, 0) r _ part (inl (omega arith))
check_falls w a (ReadScope l d) q r e = let part : r ≡ ReadReferences l d (w.scoped a) = cc in left_at (3, 0) r _ part (inl (omega arith))
check_falls w a (ReadReferences l d s) q r e =
    staged_falls w.linked w.items (record { linked = l; defs = d; scope = s; references = w.referred a }) (slice_get l.imports 0) l.imports [] (2, 0) q r
    (inl (omega arith)) (inl (omega arith)) e
check_falls w a (ReadState k [] imported) q r e = cc
check_falls w a (ReadState k (i ∷ is) imported) q r e =
    staged_falls w.linked w.items k (slice_get is 0) is (with_state (Some i) (w.itemed a) imported) (1, length (i ∷ is)) q r
    (inr (refl, omega arith)) (inl (omega arith)) e
check_falls w a (ReadNext k [] imported) q r e = cc
check_falls w a (ReadNext k (i ∷ is) imported) q r e =
    link_falls w.linked k i (slice_get is 0) (w.ring a) is imported (0, length (i ∷ is)) q r (inr (refl, omega arith)) e
