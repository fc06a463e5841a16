-- Names that begin as those in the package of the searching file do.
use Rattle.std.proofs.Common.{◌≡◌, ℕ, zero, suc, ◌+◌, ◌<◌, ◌≤◌, get_or, length, drop, take, List, [], ◌∷◌, ◌++◌, Option, Some, None, refl, sym, ap, subst, ◌∙◌, inl, inr, arith, append_assoc, append-nil}
use Rattle.std.specs.Borrow.{Bor}
use Rattle.std.specs.Cmp.Lexicographic.{bytes_decides}
use Rattle.std.specs.Option.{MatchOption}
use Rattle.std.specs.Str.Pattern.{FindsTextPrefix, StripsPrefix}
use Rattle.std.proofs.Math.Seq.{take-suc}
use Rattle.std.specs.Prelude.{IfSome, bytes_eq, codes, slice_get, find, Bool, cond, nat_lt, true, false}
use Rattle.std.proofs.lemmas.Bool.{cases_lt}
use Rattle.std.proofs.lemmas.List.{get_or-take, length-append, length-take-le, take-append-drop, take-append-le, take_all, take_at}
use Rattle.std.proofs.lemmas.Option.{slice_get_within, slice_get-get_or}
use Rattle.pq_rules.specs.Relations.{Each}
use Rattle.pq_rules.proofs.Settled.{each_map}
use Rattle.pq_schema.specs.declared.define.definitions.Definition.{Definition}
use Rattle.pq_schema.specs.declared.scope.scope.FileDefs.{FileDefs}
use Rattle.pq_schema.specs.Definitions.{qualified}
use Rattle.pq_schema.specs.Resolution.{scopes}
use Rattle.pq_schema.specs.aux.Fronts.{AreFronts, BeginAlike, Begins, BothBegin, CountsAt, DiffersAt, Guides, IsSpotOf, LeavesAt}
use Rattle.pq_schema.specs.aux.FirstOf.{answer_at, answer_by, definition_in}
use Rattle.pq_schema.specs.aux.Grouping.{IsBelow}
use Rattle.pq_schema.specs.aux.InPackage.{Below}
use Rattle.pq_schema.specs.aux.NameParts.{leading}
use Rattle.pq_schema.specs.aux.Outward.{beyond}
use Rattle.pq_schema.specs.aux.PackageRange.{IsRange, IsRangeOf}
use Rattle.pq_schema.specs.declared.scope.package_range.PackageRange.{PackageRange}
use Rattle.pq_schema.specs.aux.Scopes.{is_among}
use Rattle.pq_schema.specs.aux.Spots.{AreSpots}
use Rattle.pq_schema.proofs.Alike.{none_alike}
use Rattle.pq_schema.proofs.FirstNear.{definition_only}
use Rattle.pq_schema.proofs.Marks.{each_kept}
use Rattle.pq_schema.proofs.ScopesWithin.{among_split, in_scopes}

-- ---- texts that begin alike

begins_self : (x : List ℕ) → Begins x x
begins_self x = ([], sym (append-nil x))

begins_take : (front whole : List ℕ) (n : ℕ) → n ≤ length front → Begins front whole → take n whole ≡ take n front
begins_take front whole n fits b = ap (take n) b.1 ∙ take-append-le n front b.0 fits

begins_length : (front whole : List ℕ) → Begins front whole → length front ≤ length whole
begins_length front whole b = omega (arith, ap length b.1, length-append front b.0)

both_take : (n m : ℕ) (a b : List ℕ) → m ≤ n → BothBegin n a b → take m a ≡ take m b
both_take n m a b fits h =
    let less : m ≤ length h.0 = omega (arith, fits, h.1) in
    begins_take h.0 a m less h.2 ∙ sym (begins_take h.0 b m less h.3)

-- any two texts begin with the same bytes, if these are none
pub both_none : (a b : List ℕ) → BothBegin 0 a b
both_none a b = ([], refl, (a, refl), (b, refl))

begins_less : (front whole : List ℕ) (n : ℕ) → Begins front whole → Begins (take n front) whole
begins_less front whole n b =
    (drop n front ++ b.0, b.1 ∙ ap (λ (x : List ℕ). x ++ b.0) (sym (take-append-drop n front)) ∙ append_assoc (take n front) (drop n front) b.0)

both_less : (m n : ℕ) (a b : List ℕ) → m ≤ n → BothBegin n a b → BothBegin m a b
both_less m n a b less h =
    (take m h.0, length-take-le m h.0 (omega (arith, less, h.1)), begins_less h.0 a m h.2, begins_less h.0 b m h.3)

both_of : (n : ℕ) (a b : List ℕ) → n ≤ length a → take n a ≡ take n b → BothBegin n a b
both_of n a b within same = (
  take n a,
  length-take-le n a within,
  (drop n a, sym (take-append-drop n a)),
  (drop n b, sym (take-append-drop n b) ∙ ap (λ (x : List ℕ). x ++ drop n b) (sym same)),
)

-- a text and the beginning of it
pub stripped : (a b : List ℕ) (r : Option (Bor (List ℕ))) (x : Bor (List ℕ)) → r ≡ Some x
    → MatchOption r (FindsTextPrefix b a None) (λ t. StripsPrefix (FindsTextPrefix b) a t.now) → BothBegin (length b) a b
stripped a b None x is h = cc
stripped a b (Some t) x is h = (b, refl, (t.now, h.1.1 ∙ ap (λ (rest : List ℕ). b ++ rest) (sym h.2)), begins_self b)

-- a byte more
pub both_byte : (n : ℕ) (a b : List ℕ) (x y : ℕ) → n < length a → n < length b → get_or a n x ≡ get_or b n y → BothBegin n a b → BothBegin (n + 1) a b
both_byte n a b x y in_a in_b same h =
    let more : suc n ≡ n + 1 = omega arith in
    subst (λ (m : ℕ). BothBegin m a b) more
    (both_of (suc n) a b (omega (arith, in_a))
    (take-suc a n x in_a
    ∙ ap (λ (l : List ℕ). l ++ get_or a n x ∷ []) (both_take n n a b (omega arith) h)
    ∙ ap (λ (v : ℕ). take n b ++ v ∷ []) same
    ∙ sym (take-suc b n y in_b)))

same_at : (n : ℕ) (a b : List ℕ) → take (suc n) a ≡ take (suc n) b → get_or a n 0 ≡ get_or b n 0
same_at n a b same =
    sym (get_or-take (suc n) a n 0 (omega arith)) ∙ ap (λ (l : List ℕ). get_or l n 0) same ∙ get_or-take (suc n) b n 0 (omega arith)

-- ---- names in files

below_take : (n : ℕ) (root name : List ℕ) → n ≤ length root → Below root name → take n name ≡ take n root
below_take zero root name fits below = refl
below_take (suc n) root name fits (inl none) = absurd (omega (arith, fits, ap length none))
below_take (suc n) root name fits (inr h) = begins_take root name (suc n) fits (codes "." ++ h.0, h.1 ∙ append_assoc root (codes ".") h.0)

some_same : (a b : FileDefs) → Some a ≡ Some b → a ≡ b
some_same a b e = cc

each_there : (files : List FileDefs) (k : ℕ) (d : FileDefs) → Each IsBelow files → k < length files → IsBelow (get_or files k d)
each_there [] k d all within = absurd (omega arith)
each_there (f ∷ fs) zero d all within = all.0
each_there (f ∷ fs) (suc k) d all within = each_there fs k d all.1 (omega arith)

at_place : (files : List FileDefs) (k : ℕ) → Each IsBelow files → (f : FileDefs) → slice_get files k ≡ Some f → IsBelow f
at_place files k below f at =
    let within = slice_get_within files k f at in
    let same : Some (get_or files k f) ≡ Some f = sym (slice_get-get_or files k f within) ∙ at in
    subst IsBelow (some_same (get_or files k f) f same) (each_there files k f below within)

pub counts_less : (m n k : ℕ) (files : List FileDefs) (root : List ℕ) → m ≤ n → CountsAt n files k root → CountsAt m files k root
counts_less m n k files root less counts f at = both_less m n (leading root) f.defs.package_name less (counts f at)

-- a name that goes some way along a package, and the names of a file whose package does
pub counts_alike : (n k start : ℕ) (files own : List FileDefs) (root name : List ℕ) → CountsAt n own k root → n ≤ start → own ≡ files → Each IsBelow files
    → BothBegin start (leading root) name → (f : FileDefs) → slice_get files k ≡ Some f → BeginAlike n name f.defs.definitions
counts_alike n k start files own root name counts less same below begins f at =
    each_map (λ (d : Definition). Below f.defs.package_name d.full_name) (λ (d : Definition). take n d.full_name ≡ take n name) f.defs.definitions one (at_place files k below f at)
  where
    own_root : List ℕ
    own_root = f.defs.package_name

    both : BothBegin n (leading root) own_root
    both = counts f (ap (λ (fs : List FileDefs). slice_get fs k) same ∙ at)

    one : (d : Definition) → Below own_root d.full_name → take n d.full_name ≡ take n name
    one d h =
        below_take n own_root d.full_name (omega (arith, both.1, begins_length both.0 own_root both.3)) h
        ∙ sym (both_take n n (leading root) own_root (omega arith) both)
        ∙ both_take start n (leading root) name less begins

-- ---- the scopes of a package

-- what is before a name in a scope of the package is the beginning of what is before one in the package
lead_of : (s root t : List ℕ) → root ≡ (s ++ codes ".") ++ t → Begins (leading s) (leading root)
lead_of [] root t is = (leading root, refl)
lead_of (c ∷ cs) root t is = (t ++ codes ".", ap leading is ∙ append_assoc ((c ∷ cs) ++ codes ".") t (codes "."))

spot_of : (root s : List ℕ) → is_among s (scopes root) ≡ true → IsSpotOf root (leading s)
spot_of root s among =
    elim (in_scopes s root among) [
      | inl e ↦ subst (λ (r : List ℕ). Begins (leading s) (leading r)) e (begins_self (leading s))
      | inr other ↦ elim other [
        | inl g ↦ let at = among_split s root g in lead_of s root at.0 at.1
        | inr e ↦ subst (λ (r : List ℕ). Begins (leading r) (leading root)) (sym e) (leading root, refl)
      ]
    ]

pub spots_of : (files : List FileDefs) (root : List ℕ) (spots : List (List ℕ)) → AreSpots files root spots → Each (IsSpotOf root) spots
spots_of files root spots are =
    subst (λ (ss : List (List ℕ)). Each (IsSpotOf root) ss) (sym are.kept) (each_kept (IsSpotOf root) are.keep (scopes root) (spot_of root))

pub lead_begins : (root s : List ℕ) → Begins (leading root) (leading (qualified root s))
lead_begins [] s = (leading s, refl)
lead_begins (c ∷ cs) s =
    (s ++ codes ".", append_assoc ((c ∷ cs) ++ codes ".") s (codes "."))

pub begins_more : (front lead name : List ℕ) → Begins front lead → Begins front (lead ++ name)
begins_more front lead name b = (b.0 ++ name, ap (λ (x : List ℕ). x ++ name) b.1 ∙ append_assoc front b.0 name)

-- a name in a scope that begins with the package
pub full_begins : (root own lead name full : List ℕ) → own ≡ root → full ≡ lead ++ name → Begins (leading root) lead → Begins (leading own) full
full_begins root own lead name full same is begins =
    subst (λ (r : List ℕ). Begins (leading r) full) (sym same)
    (subst (λ (x : List ℕ). Begins (leading root) x) (sym is) (begins_more (leading root) lead name begins))

has_by : (P : List ℕ → Type 0) (s : List ℕ) (rest : Option (List ℕ)) (b : Bool) (l : List ℕ) → P s → (Some l ≡ rest → P l) → Some l ≡ cond b (Some s) rest → P l
has_by P s rest true l here there e = let same : s ≡ l = cc in subst P same here
has_by P s rest false l here there e = there e

-- what is found in a list has what each of the list has
pub find_has : (P : List ℕ → Type 0) (p : List ℕ → Bool) (ss : List (List ℕ)) (l : List ℕ) → Each P ss → Some l ≡ find p ss → P l
find_has P p [] l all is = cc
find_has P p (s ∷ ss) l all is = has_by P s (find p ss) (p s) l all.0 (λ e. find_has P p ss l all.1 e) is

pub beyond_same : (o : Option (List ℕ)) (place : Option ℕ) (l : List ℕ) → Some l ≡ beyond o place → Some l ≡ o
beyond_same None place l is = cc
beyond_same (Some s) None l is = is
beyond_same (Some s) (Some n) l is = by_test (nat_lt n (length s)) is
  where
    by_test : (b : Bool) → Some l ≡ cond b (Some s) None → Some l ≡ Some s
    by_test true e = e
    by_test false e = cc

-- a name in a spot
pub spot_both : (root spot name full : List ℕ) (n : ℕ) → IsSpotOf root spot → n ≡ length spot → full ≡ spot ++ name → BothBegin n (leading root) full
spot_both root spot name full n is count spelled = (spot, sym count, is, (name, spelled))

-- what is before a name in a spot, if it is as long as that of the package
pub spot_whole : (spot lead : List ℕ) → Begins spot lead → length spot ≡ length lead → spot ≡ lead
spot_whole spot lead b same =
    let none : take (length spot) lead ≡ lead = take_all (length spot) lead (omega (arith, same)) in
    sym (take_at spot b.0 (length spot) refl) ∙ ap (take (length spot)) (sym b.1) ∙ none

-- the packages that begin with a spot
pub spot_range : (files own : List FileDefs) (root spot parts : List ℕ) (n : ℕ) (o : Option PackageRange) → own ≡ files → IsSpotOf root spot → n ≡ length spot → parts ≡ spot
    → IfSome o (λ (r : PackageRange). IsRange own (take n (leading root)) r) → IsRangeOf files o parts
spot_range files own root spot parts n None same is count alike range = tt
spot_range files own root spot parts n (Some r) same is count alike range =
    let at : take n (leading root) ≡ parts = ap (take n) is.1 ∙ take_at spot is.0 n (sym count) ∙ sym alike in
    subst (λ (l : List ℕ). IsRange files l r) at (subst (λ (fs : List FileDefs). IsRange fs (take n (leading root)) r) same range)

-- a name in the package
pub lead_both : (root full : List ℕ) (n : ℕ) → n ≡ length (leading root) → Begins (leading root) full → BothBegin n (leading root) full
lead_both root full n count begins = (leading root, sym count, begins_self (leading root), begins)

-- ---- the loop over the files

abbrev Front : Type 0
Front = ℕ × Bool

none_after : (fronts : List Front) (k : ℕ) → length fronts ≤ k → get_or fronts k (0, false) ≡ (0, false)
none_after [] k past = refl
none_after (x ∷ xs) zero past = absurd (omega (arith, past))
none_after (x ∷ xs) (suc k) past = none_after xs k (omega (arith, past))

get_before : (old : List Front) (n : Front) (k : ℕ) → k < length old → get_or (old ++ n ∷ []) k (0, false) ≡ get_or old k (0, false)
get_before [] n k within = absurd (omega (arith, within))
get_before (x ∷ xs) n zero within = refl
get_before (x ∷ xs) n (suc k) within = get_before xs n k (omega (arith, within))

get_last : (old : List Front) (n : Front) (k : ℕ) → k ≡ length old → get_or (old ++ n ∷ []) k (0, false) ≡ n
get_last [] n zero is = refl
get_last [] n (suc k) is = absurd (omega (arith, is))
get_last (x ∷ xs) n zero is = absurd (omega (arith, is))
get_last (x ∷ xs) n (suc k) is = get_last xs n k (omega (arith, is))

-- `Fits front files k root` is what a table of fronts says of the file at the place `k`
abbrev Fits : Front → List FileDefs → ℕ → List ℕ → Type 0
Fits front files k root = CountsAt front.0 files k root × (front.1 ≡ true → LeavesAt front.0 files k root)

none_fits : (files : List FileDefs) (k : ℕ) (root : List ℕ) → Fits (0, false) files k root
none_fits files k root = (λ f there. both_none (leading root) f.defs.package_name, λ e. cc)

-- without fronts
pub no_fronts : (fronts : List (ℕ × Bool)) (files : List FileDefs) (root : List ℕ) → fronts ≡ [] → (length fronts ≡ 0) × AreFronts fronts files root
no_fronts [] files root none = (refl, λ k. none_fits files k root)
no_fronts (f ∷ fs) files root none = cc

-- of one file more
pub fronts_more : (files : List FileDefs) (old new : List (ℕ × Bool)) (i : ℕ) (n : ℕ × Bool) (item : FileDefs) (root : List ℕ) → i < length files → new ≡ old ++ n ∷ []
    → get_or files i item ≡ item → BothBegin n.0 (leading root) item.defs.package_name → (n.1 ≡ true → DiffersAt n.0 (leading root) item.defs.package_name)
    → (length old ≡ i) × AreFronts old files root → (length new ≡ i + 1) × AreFronts new files root
fronts_more files old new i n item root within is at both differ so_far =
    (omega (arith, ap length is, length-append old (n ∷ []), so_far.0), all)
  where
    same_file : (f : FileDefs) → slice_get files i ≡ Some f → item ≡ f
    same_file f there = sym at ∙ some_same (get_or files i item) f (sym (slice_get-get_or files i item within) ∙ there)

    own : Fits n files i root
    own = (
      λ f there. subst (λ (x : FileDefs). BothBegin n.0 (leading root) x.defs.package_name) (same_file f there) both,
      λ e f there. subst (λ (x : FileDefs). DiffersAt n.0 (leading root) x.defs.package_name) (same_file f there) (differ e),
    )

    all : AreFronts new files root
    all k = elim (cases_lt k i) [
      | inl low ↦ subst (λ (m : Front). Fits m files k root) (sym (ap (λ (xs : List Front). get_or xs k (0, false)) is ∙ get_before old n k (omega (arith, low, so_far.0)))) (so_far.1 k)
      | inr from ↦ elim (cases_lt i k) [
        | inl high ↦ subst (λ (m : Front). Fits m files k root) (sym (none_after new k (omega (arith, high, ap length is, length-append old (n ∷ []), so_far.0))))
            (none_fits files k root)
        | inr to ↦
            let here : i ≡ k = omega (arith, from, to) in
            subst (λ (m : Front). Fits m files k root) (sym (ap (λ (xs : List Front). get_or xs k (0, false)) is ∙ get_last old n k (omega (arith, sym here, so_far.0))))
            (subst (λ (j : ℕ). Fits n files j root) here own)
      ]
    ]

-- ---- files whose package leaves the way

not_this : (b : Bool) (d : Definition) (o : Option Definition) → (b ≡ true → ⊥) → o ≡ None → cond b (Some d) o ≡ None
not_this false d o other none = none
not_this true d o other none = absurd (other refl)

none_named : (name : List ℕ) (ds : List Definition) → Each (λ (d : Definition). d.full_name ≡ name → ⊥) ds → find (λ (d : Definition). bytes_eq d.full_name name) ds ≡ None
none_named name [] all = refl
none_named name (d ∷ ds) all =
    not_this (bytes_eq d.full_name name) d (find (λ (x : Definition). bytes_eq x.full_name name) ds) (λ e. all.0 ((bytes_decides d.full_name name).0 e))
    (none_named name ds all.1)

-- a name that goes along the package is none of a file whose package leaves it before
apart_none : (files own : List FileDefs) (k n start : ℕ) (root name : List ℕ) → n < start → LeavesAt n own k root → own ≡ files → Each IsBelow files
    → BothBegin start (leading root) name → answer_at (definition_in name) files k ≡ None
apart_none files own k n start root name before leaves same below begins = by (slice_get files k) refl
  where
    one : (f : FileDefs) → DiffersAt n (leading root) f.defs.package_name → (d : Definition) → Below f.defs.package_name d.full_name → d.full_name ≡ name → ⊥
    one f differ d h is =
        differ.2
        (same_at n (leading root) name (both_take start (suc n) (leading root) name (omega (arith, before)) begins)
        ∙ ap (λ (x : List ℕ). get_or x n 0) (sym is)
        ∙ same_at n d.full_name f.defs.package_name (below_take (suc n) f.defs.package_name d.full_name (omega (arith, differ.1)) h))

    by : (o : Option FileDefs) → slice_get files k ≡ o → answer_by (definition_in name) o ≡ None
    by None at = refl
    by (Some f) at = definition_only name f (none_named name f.defs.definitions
        (each_map (λ (d : Definition). Below f.defs.package_name d.full_name) (λ (d : Definition). d.full_name ≡ name → ⊥) f.defs.definitions
        (one f (leaves f (ap (λ (fs : List FileDefs). slice_get fs k) same ∙ at))) (at_place files k below f at)))

-- ---- what serves to look up a name

-- a name that goes some way along the package
pub along_guides : (fronts : List (ℕ × Bool)) (start : ℕ) (files own : List FileDefs) (root name : List ℕ) → AreFronts fronts own root → own ≡ files → Each IsBelow files
    → BothBegin start (leading root) name → Guides fronts start files name
along_guides fronts start files own root name are same below begins = record {
  alike = λ k n low less f at.
      counts_alike n k start files own root name (counts_less n (get_or fronts k (0, false)).0 k own root low (are k).0) less same below begins f at;
  apart = λ k leaves before.
      apart_none files own k (get_or fronts k (0, false)).0 start root name before ((are k).1 leaves) same below begins;
}

-- any name
pub no_guides : (files : List FileDefs) (name : List ℕ) → Guides [] 0 files name
no_guides files name = record {
  alike = λ k n low less f at.
      let none : 0 ≡ n = omega (arith, less) in
      subst (λ (m : ℕ). BeginAlike m name f.defs.definitions) none (none_alike name f.defs.definitions);
  apart = λ k leaves before. cc;
}
