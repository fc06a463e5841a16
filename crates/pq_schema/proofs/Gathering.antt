-- Loops that gather a list, and the index of files by name.
use Rattle.std.proofs.Common.{◌≡◌, ℕ, suc, ◌+◌, ◌<◌, ◌≤◌, Bool, true, false, cond, length, get_or, drop, List, [], ◌∷◌, ◌++◌, Option, Some, None, refl, sym, ap, ◌∙◌, append-nil, append_assoc, arith}
use Rattle.std.specs.Prelude.{option_to_list, option_map, bytes_eq, find, slice_get}
use Rattle.std.specs.List.{cons_option}
use Rattle.std.specs.Cmp.Lexicographic.{slice_cmp}
use Rattle.std.specs.Ordering.{nat_cmp}
use Rattle.std.specs.BTreeMap.{is_at}
use Rattle.std.proofs.lemmas.List.{at_drop_all, at_drop_more, length-append}
use Rattle.std.proofs.lemmas.Map.Text.{is_eq-slice_cmp}
use Rattle.std.proofs.lemmas.Slice.Eq.{bytes_eq-Decides}
use Rattle.pq_links.specs.declared.links.Links.{Links}
use Rattle.pq_links.proofs.JoinSteps.{drop_at}
use Rattle.pq_schema.specs.Contents.{Defs}
use Rattle.pq_syntax.specs.Places.{places_after}
use Rattle.pq_schema.specs.Answers.{picked}
use Rattle.pq_schema.specs.Definitions.{package_of, defs_of}
use Rattle.pq_schema.specs.Missing.{no_defs}
use Rattle.pq_schema.specs.aux.Collecting.{collected_view, collect_read, first_of, defs_if, defs_named, named}
use Rattle.pq_schema.specs.declared.scope.scope.FileDefs.{FileDefs}

-- ---- a loop that adds to a list what each element of another gives

pub gathered_more : {X Y : Type 0} (h : X → List Y) (all : List X → List Y) → ((x : X) (xs : List X) → all (x ∷ xs) ≡ h x ++ all xs) → (v w r : List Y) (xs : List X) (i : ℕ) (d : X) → i < length xs → w ≡ v ++ h (get_or xs i d) → v ++ all (drop i xs) ≡ r → w ++ all (drop (i + 1) xs) ≡ r
gathered_more h all step v w r xs i d within is so_far =
    ap (λ u. u ++ all (drop (i + 1) xs)) is
    ∙ append_assoc v (h (get_or xs i d)) (all (drop (i + 1) xs))
    ∙ ap (λ u. v ++ u) (sym (step (get_or xs i d) (drop (i + 1) xs)))
    ∙ ap (λ u. v ++ u) (sym (at_drop_more all xs i d within))
    ∙ so_far

pub gathered_all : {X Y : Type 0} (all : List X → List Y) → all [] ≡ [] → (v r : List Y) (xs : List X) (i : ℕ) → length xs ≤ i → v ++ all (drop i xs) ≡ r → v ≡ r
gathered_all all none v r xs i past so_far =
    sym (append-nil v) ∙ ap (λ u. v ++ u) (sym none) ∙ ap (λ u. v ++ u) (sym (at_drop_all all xs i past)) ∙ so_far

-- one more item, made of an item that is `d`
pub pushed : {X Y : Type 0} (h : X → Y) (v w : List Y) (y : Y) (x d : X) → w ≡ v ++ y ∷ [] → y ≡ h x → x ≡ d → w ≡ v ++ h d ∷ []
pushed h v w y x d e f i = e ∙ ap (λ z. v ++ z ∷ []) (f ∙ ap h i)

-- ---- the index of files by name

first_assoc : (a : Option Defs) (f : FileDefs) (n : List ℕ) (rest : Option Defs)
    → first_of (first_of a (defs_if f n)) rest ≡ first_of a (first_of (defs_if f n) rest)
first_assoc (Some d) f n rest = refl
first_assoc None f n rest = refl

-- `Finds found files all` is that what `found` says of a name, or else `files`, is what `all` says
abbrev pub Finds : (List ℕ → Option Defs) → List FileDefs → List FileDefs → Type 0
Finds found files all = (n : List ℕ) → first_of (found n) (defs_named files n) ≡ defs_named all n

pub finds_more : (found new : List ℕ → Option Defs) (files : List FileDefs) (i : ℕ) (d : FileDefs) → i < length files
    → ((n : List ℕ) → new n ≡ first_of (found n) (defs_if (get_or files i d) n)) → Finds found (drop i files) files → Finds new (drop (i + 1) files) files
finds_more found new files i d within is so_far n =
    ap (λ o. first_of o (defs_named (drop (i + 1) files) n)) (is n)
    ∙ first_assoc (found n) (get_or files i d) n (defs_named (drop (i + 1) files) n)
    ∙ ap (λ o. first_of (found n) o) (sym (at_drop_more (λ fs. defs_named fs n) files i d within))
    ∙ so_far n

first_none : (a : Option Defs) → first_of a None ≡ a
first_none (Some d) = refl
first_none None = refl

pub finds_all : (found : List ℕ → Option Defs) (files : List FileDefs) (i : ℕ) → length files ≤ i
    → Finds found (drop i files) files → (n : List ℕ) → found n ≡ defs_named files n
finds_all found files i past so_far n =
    sym (first_none (found n))
    ∙ ap (λ o. first_of (found n) o) (sym (at_drop_all (λ fs. defs_named fs n) files i past))
    ∙ so_far n

kept_test : (b : Bool) (d : Defs) (o : Option Defs) (e : Defs) → (b ≡ true → o ≡ Some e) → o ≡ first_of o (cond b (Some d) None)
kept_test b d (Some x) e h = refl
kept_test true d None e h = let x = h refl in cc
kept_test false d None e h = refl

-- where the index has the file's name, it stays
pub kept_first : (get : List ℕ → Option Defs) (f : FileDefs) (e : Defs) → get f.file ≡ Some e → (n : List ℕ) → get n ≡ first_of (get n) (defs_if f n)
kept_first get f e has n =
    kept_test (bytes_eq f.file n) f.defs (get n) e (λ t. ap get (sym ((bytes_eq-Decides f.file n).0 t)) ∙ has)

added_test : (b : Bool) (d : Defs) (o : Option Defs) → (b ≡ true → o ≡ None) → cond b (Some d) o ≡ first_of o (cond b (Some d) None)
added_test true d o h = ap (λ x. first_of x (Some d)) (sym (h refl))
added_test false d o h = sym (first_none o)

-- where it has not, the file is added
pub added_first : (get new : List ℕ → Option Defs) (f : FileDefs) → get f.file ≡ None
    → ((n : List ℕ) → new n ≡ cond (is_at (slice_cmp nat_cmp f.file) n) (Some f.defs) (get n)) → (n : List ℕ) → new n ≡ first_of (get n) (defs_if f n)
added_first get new f none is n =
    is n
    ∙ ap (λ b. cond b (Some f.defs) (get n)) (is_eq-slice_cmp f.file n)
    ∙ added_test (bytes_eq f.file n) f.defs (get n) (λ t. ap get (sym ((bytes_eq-Decides f.file n).0 t)) ∙ none)

named_test : (b : Bool) (f : FileDefs) (n : List ℕ) (o : Option Defs) (p : Option FileDefs) → (b ≡ true → f.file ≡ n) → option_map (named n) o ≡ p
    → option_map (named n) (first_of (cond b (Some f.defs) None) o) ≡ cond b (Some f) p
named_test true f n o p h e = ap (λ (x : List ℕ). Some (named x f.defs)) (sym (h refl))
named_test false f n o p h e = e

-- the file of a name with the definitions of the index is the first file of the name
pub named_found : (files : List FileDefs) (n : List ℕ) → option_map (named n) (defs_named files n) ≡ find (λ (f : FileDefs). bytes_eq f.file n) files
named_found [] n = refl
named_found (f ∷ fs) n =
    named_test (bytes_eq f.file n) f n (defs_named fs n) (find (λ (x : FileDefs). bytes_eq x.file n) fs) (λ t. (bytes_eq-Decides f.file n).0 t) (named_found fs n)

more : (o : Option FileDefs) (fs : List FileDefs) → cons_option o fs ≡ option_to_list o ++ fs
more None fs = refl
more (Some f) fs = refl

-- the files of one more name
pub picked_more : (files : List FileDefs) (n : List ℕ) (ns : List (List ℕ)) → picked files (n ∷ ns) ≡ option_to_list (find (λ (f : FileDefs). bytes_eq f.file n) files) ++ picked files ns
picked_more files n ns = more (find (λ (f : FileDefs). bytes_eq f.file n) files) (picked files ns)

-- one more name, where `g` says what the definitions of each name are
pub picked_step : (files : List FileDefs) (g : List ℕ → Option Defs) → ((n : List ℕ) → g n ≡ defs_named files n) → (found new : List FileDefs) (name d : List ℕ)
    → new ≡ found ++ option_to_list (option_map (named name) (g name)) → name ≡ d → new ≡ found ++ option_to_list (find (λ (f : FileDefs). bytes_eq f.file d) files)
picked_step files g first found new name d e i =
    e
    ∙ ap (λ (o : Option Defs). found ++ option_to_list (option_map (named name) o)) (first name)
    ∙ ap (λ (o : Option FileDefs). found ++ option_to_list o) (named_found files name)
    ∙ ap (λ (n : List ℕ). found ++ option_to_list (find (λ (f : FileDefs). bytes_eq f.file n) files)) i

-- ---- a file without statements

pub defs_of_nothing : defs_of [] ≡ no_defs
unfolding package_of places_after
defs_of_nothing = refl

-- ---- the part of a scope

pub read_next : (links : Links) (files : List FileDefs) (n : List ℕ) (d : Defs) → slice_get links.reach (length files) ≡ Some n
    → collected_view links (files ++ named n d ∷ []) ≡ collect_read (collected_view links files) d
read_next links files n d e =
    let step : length (files ++ named n d ∷ []) ≡ suc (length files) = length-append files (named n d ∷ []) ∙ omega arith in
    ap (λ (i : ℕ). (links.visible, (drop i links.reach, files ++ named n d ∷ []))) step
    ∙ ap (λ (ns : List (List ℕ)). collect_read (links.visible, (ns, files)) d) (sym (drop_at (length files) links.reach n e))
