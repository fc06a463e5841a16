-- The index of packages: it has each name of a package, and the files near a name are all that can
-- have it.
use Rattle.std.proofs.Common.{◌≡◌, ◌⊎◌, inl, inr, ℕ, suc, ◌+◌, ◌<◌, ◌≤◌, ◌==◌, Bool, true, false, cond, ◌||◌, nat_eq, List, [], ◌∷◌, ◌++◌, length, get_or, take, drop, zero, Option, Some, None, refl, sym, ap, subst, ◌∙◌, arith, add-one, append-nil, append_assoc}
use Rattle.std.specs.Prelude.{bytes_eq, codes, find, slice_get}
use Rattle.std.specs.List.{starts_with, list_any, Contains}
use Rattle.std.proofs.lemmas.List.{at_drop_all, drop_more, drop_all}
use Rattle.std.proofs.lemmas.List.Sorted.{list_any-IsPermutation, Contains-permutation}
use Rattle.std.proofs.lemmas.Option.{same_Some}
use Rattle.std.proofs.lemmas.Slice.Eq.{bytes_eq-Decides}
use Rattle.pq_rules.specs.Relations.{Each, In}
use Rattle.pq_schema.specs.declared.scope.scope.FileDefs.{FileDefs}
use Rattle.pq_schema.specs.declared.define.definitions.Definition.{Definition}
use Rattle.pq_schema.specs.Resolution.{is_package, prefixes}
use Rattle.pq_schema.specs.aux.InPackage.{AllBelow, Below, dotted}
use Rattle.pq_schema.specs.aux.Scopes.{is_among}
use Rattle.pq_schema.specs.aux.Grouping.{AreNear, IsBelow, IsIndex, around, find_in, roots}
use Rattle.pq_schema.proofs.Among.{among_append, covers_dotted, starts_among}
use Rattle.pq_schema.proofs.Meanings.{covers, package_cons}

-- ---- the packages

pub roots_more : (files : List FileDefs) (n : ℕ) (es more : List (List ℕ × ℕ)) (f : FileDefs) (root : List ℕ) → n < length files
    → f ≡ get_or files n f → root ≡ dotted f.defs.package_name
    → more ≡ es ++ (root, n) ∷ [] → es ++ roots n (drop n files) ≡ roots 0 files
    → more ++ roots (n + 1) (drop (n + 1) files) ≡ roots 0 files
unfolding roots
roots_more files n es more f root within is is_root is_more so_far =
    ap (λ (xs : List (List ℕ × ℕ)). xs ++ roots (n + 1) (drop (n + 1) files)) is_more
    ∙ append_assoc es ((root, n) ∷ []) (roots (n + 1) (drop (n + 1) files))
    ∙ ap (λ (r : List ℕ). es ++ (r, n) ∷ roots (n + 1) (drop (n + 1) files)) is_root
    ∙ ap (λ (m : ℕ). es ++ (dotted f.defs.package_name, n) ∷ roots m (drop (n + 1) files)) (add-one n)
    ∙ ap (λ (x : FileDefs). es ++ roots n (x ∷ drop (n + 1) files)) is
    ∙ ap (λ (xs : List FileDefs). es ++ roots n xs) (sym (drop_more files n f within))
    ∙ so_far

pub roots_all : (files : List FileDefs) (n : ℕ) (es : List (List ℕ × ℕ)) → length files ≤ n → es ++ roots n (drop n files) ≡ roots 0 files → es ≡ roots 0 files
unfolding roots
roots_all files n es past so_far = sym (append-nil es) ∙ ap (λ xs. es ++ xs) (sym (at_drop_all (roots n) files n past)) ∙ so_far

-- the package of each file is there
roots_have : (n k : ℕ) (files : List FileDefs) (f : FileDefs) → slice_get files k ≡ Some f → Contains (roots n files) (dotted f.defs.package_name, n + k)
unfolding roots
roots_have n k [] f at = cc
roots_have n zero (x ∷ xs) f at =
    let is : x ≡ f = cc in
    (zero, (omega arith), ap (λ (y : FileDefs). (dotted y.defs.package_name, n)) is ∙ ap (λ (m : ℕ). (dotted f.defs.package_name, m)) (omega arith))
roots_have n (suc k) (x ∷ xs) f at =
    let rest = roots_have (suc n) k xs f at in
    let plus : suc n + k ≡ n + suc k = omega arith in
    let there : Contains (roots (suc n) xs) (dotted f.defs.package_name, n + suc k) =
    subst (λ (m : ℕ). Contains (roots (suc n) xs) (dotted f.defs.package_name, m)) plus rest in
    let within = there.1 in
    (suc there.0, (omega arith), there.2)

pub listed : {index : List (List ℕ × ℕ)} (files : List FileDefs) → IsIndex index files → (k : ℕ) (f : FileDefs) → slice_get files k ≡ Some f
    → Contains index (dotted f.defs.package_name, k)
listed {index} files x k f at =
    let plus : 0 + k ≡ k = omega arith in
    Contains-permutation (roots 0 files) index (dotted f.defs.package_name, k) x.same
    (subst (λ (m : ℕ). Contains (roots 0 files) (dotted f.defs.package_name, m)) plus (roots_have 0 k files f at))

-- the names of packages
any_root : (n : ℕ) (files : List FileDefs) (name : List ℕ) → (length name == 0) ≡ false
    → list_any (λ (e : List ℕ × ℕ). starts_with nat_eq e.0 (dotted name)) (roots n files) ≡ is_package files name
unfolding roots is_package
any_root n [] name some = refl
any_root n (f ∷ fs) name some =
    ap (λ (b : Bool). b || list_any (λ (e : List ℕ × ℕ). starts_with nat_eq e.0 (dotted name)) (roots (suc n) fs)) (covers_dotted f.defs.package_name name)
    ∙ ap (λ (b : Bool). covers f.defs.package_name name || b) (any_root (suc n) fs name some)
    ∙ sym (package_cons f fs name some)

pub known_package : {index : List (List ℕ × ℕ)} (files : List FileDefs) → IsIndex index files → (name : List ℕ) → (length name == 0) ≡ false
    → list_any (λ (e : List ℕ × ℕ). starts_with nat_eq e.0 (dotted name)) index ≡ is_package files name
known_package {index} files x name some =
    sym (list_any-IsPermutation (λ (e : List ℕ × ℕ). starts_with nat_eq e.0 (dotted name)) (roots 0 files) index x.same)
    ∙ any_root 0 files name some

pub below_more : (files : List FileDefs) (i : ℕ) (item : FileDefs)
    → i < length files
    → item ≡ get_or files i item
    → IsBelow item
    → Each IsBelow (drop (i + 1) files)
    → Each IsBelow (drop i files)
below_more files i item within is first others =
    subst (λ (fs : List FileDefs). Each IsBelow fs) (sym (drop_more files i item within ∙ ap (λ (x : FileDefs). x ∷ drop (i + 1) files) (sym is))) (first, others)

pub below_end : (files : List FileDefs) (i : ℕ) → length files ≤ i → Each IsBelow (drop i files)
below_end files i beyond = subst (λ (fs : List FileDefs). Each IsBelow fs) (sym (drop_all i files beyond)) tt

-- ---- the files that can have a name

each_at : (P : FileDefs → Type 0) (files : List FileDefs) (k : ℕ) (f : FileDefs) → Each P files → slice_get files k ≡ Some f → P f
each_at P [] k f all is = cc
each_at P (x ∷ xs) zero f all is = subst P (same_Some x f is) all.0
each_at P (x ∷ xs) (suc k) f all is = each_at P xs k f all.1 is

take_front : (a b : List ℕ) → take (length a) (a ++ b) ≡ a
take_front [] b = refl
take_front (c ∷ cs) b = ap (λ (xs : List ℕ). c ∷ xs) (take_front cs b)

starts_itself : (a b : List ℕ) → starts_with nat_eq (a ++ b) a ≡ true
starts_itself a b = ap (λ (xs : List ℕ). bytes_eq a xs) (take_front a b) ∙ (bytes_eq-Decides a a).1 refl

or_true : (b : Bool) → (b || true) ≡ true
or_true true = refl
or_true false = refl

-- a package that a name is below is a prefix of it before a dot, or empty
below_among : (root name : List ℕ) → Below root name → is_among root (prefixes name ++ [] ∷ []) ≡ true
below_among root name (inl none) =
    subst (λ (r : List ℕ). is_among r (prefixes name ++ [] ∷ []) ≡ true) (sym none)
    (among_append [] (prefixes name) ([] ∷ []) ∙ or_true (is_among [] (prefixes name)))
below_among root name (inr more) =
    among_append root (prefixes name) ([] ∷ [])
    ∙ ap (λ (b : Bool). b || is_among root ([] ∷ []))
    (sym (starts_among name root) ∙ ap (λ (n : List ℕ). starts_with nat_eq n (root ++ codes ".")) more.1 ∙ starts_itself (root ++ codes ".") more.0)

abbrev CanHave : List ℕ → List ℕ → Option Definition → Type 0
CanHave root name found = (is_among root (prefixes name ++ [] ∷ []) ≡ true) ⊎ (found ≡ None)

below_test : (root name : List ℕ) (d : Definition) (rest : Option Definition) (b : Bool)
    → bytes_eq d.full_name name ≡ b
    → Below root d.full_name
    → CanHave root name rest
    → CanHave root name (cond b (Some d) rest)
below_test root name d rest true same below others =
    inl (below_among root name (subst (λ (n : List ℕ). Below root n) ((bytes_eq-Decides d.full_name name).0 same) below))
below_test root name d rest false same below others = others

below_find : (root name : List ℕ) (ds : List Definition) → AllBelow root ds
    → CanHave root name (find (λ (d : Definition). bytes_eq d.full_name name) ds)
below_find root name [] all = inr refl
below_find root name (d ∷ ds) all =
    below_test root name d (find (λ (x : Definition). bytes_eq x.full_name name) ds) (bytes_eq d.full_name name) refl all.0 (below_find root name ds all.1)

-- a file that is not near a name does not have it
pub can_have : (files : List FileDefs) (near : List ℕ) (name : List ℕ) (k : ℕ) (f : FileDefs)
    → AreNear near files (around name)
    → Each IsBelow files
    → slice_get files k ≡ Some f
    → In k near ⊎ (find_in f name ≡ None)
can_have files near name k f are all at =
    elim (below_find f.defs.package_name name f.defs.definitions (each_at IsBelow files k f all at)) [
      | inl among ↦ inl (are.all k f at among)
      | inr none ↦ inr none
    ]
