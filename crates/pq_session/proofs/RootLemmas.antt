-- Roots, and the names that URIs have below them.
use Rattle.std.proofs.Common.{◌≡◌, refl, sym, ◌∙◌, ap, subst, ℕ, ◌+◌, ◌<◌, List, [], ◌∷◌, ◌++◌, append_assoc, length, drop, get_or, reverse, Bool, true, false, not, ◌==◌, ◌⊎◌, inl, inr, Option, Some, None, option_map, is_some, arith, lit<}
use Rattle.std.specs.Prelude.{codes, nat_eq, if◌then◌else◌, ◌&&◌, ◌↔◌, option_and_then, unwrap_or, IsUtf8}
use Rattle.std.specs.List.{starts_with}
use Rattle.std.specs.Str.{is_utf8}
use Rattle.std.proofs.Math.Seq.{get_or-append_seam, take-append_seam, drop-append_seam, drop-append-add}
use Rattle.std.proofs.lemmas.Bool.{cond-true, cond-false, eqb-true, false_from_ne_true}
use Rattle.std.proofs.lemmas.Bool.Decides.{Decides-eqb}
use Rattle.std.proofs.lemmas.List.{length-append, reverse-append, reverse-reverse}
use Rattle.std.proofs.lemmas.Slice.Eq.{starts_is}
use Rattle.std.proofs.lemmas.Str.{encode_ascii, IsUtf8-append, IsUtf8-drop, IsUtf8-encode, IsUtf8-from_is_utf8, IsUtf8-nil, IsUtf8-take, is_utf8-from_IsUtf8, IsCharBoundary-after_ascii, IsCharBoundary-before_ascii}
use Rattle.percent_encoding.specs.Percent.{percent_decode}
use Rattle.pq_session.specs.Uri.{strip_prefix, is_absolute, absolute, path_of, text_of, decoded_path, without_slashes, without_last_slashes, root_of, below, name_of, file_below, file_at, file_of, encoded, path_in, uri_of, is_file_name}
use Rattle.pq_session.proofs.UriLemmas.{kept_whole}
use Rattle.pq_session.proofs.EscapeLemmas.{encoded_slash, decoded_encoded}

-- ---- paths that begin with `/`

test_is : (t : Bool) (x : List ℕ) → is_some (if t then Some x else None) ≡ t
test_is true x = refl
test_is false x = refl

absolute_is : (b : ℕ) (t : List ℕ) → is_absolute (b ∷ t) ≡ (nat_eq 47 b && true)
absolute_is b t = test_is (nat_eq 47 b && true) t

first_test : (a : Bool) → (a && true) ≡ true → a ≡ true
first_test true e = refl
first_test false e = absurd (cc e)

first_slash : (b : ℕ) (t : List ℕ) → is_absolute (b ∷ t) ≡ true → b ≡ 47
first_slash b t e = sym (eqb-true 47 b (first_test (nat_eq 47 b) (sym (absolute_is b t) ∙ e)))

absolute_split : (path : List ℕ) → is_absolute path ≡ true → (t : List ℕ) × (path ≡ 47 ∷ t)
absolute_split [] e = absurd (cc e)
absolute_split (b ∷ t) e = (t, ap (λ (x : ℕ). x ∷ t) (first_slash b t e))

slash_absolute : (t : List ℕ) → is_absolute (47 ∷ t) ≡ true
slash_absolute t = refl

no_slashes : (path : List ℕ) → is_absolute path ≡ false → without_slashes path ≡ path
no_slashes path e = kept_whole path (λ rest is. let bad : true ≡ false = sym (ap is_absolute is) ∙ e in absurd (cc bad))

relative_by : (b : ℕ) (rest : List ℕ) (t : Bool) → (b == 47) ≡ t → is_absolute (without_slashes rest) ≡ false → is_absolute (if t then without_slashes rest else b ∷ rest) ≡ false
relative_by b rest true e more = more
relative_by b rest false e more = false_from_ne_true _ (λ a. let is = first_slash b rest a in let bad : true ≡ false = sym (ap (λ (x : ℕ). x == 47) is) ∙ e in absurd (cc bad))

trimmed_relative : (rest : List ℕ) → is_absolute (without_slashes rest) ≡ false
trimmed_relative [] = refl
trimmed_relative (b ∷ rest) = relative_by b rest (b == 47) refl (trimmed_relative rest)

-- ---- UTF-8 on both sides of a slash

after_slash : (front t : List ℕ) → IsUtf8 (front ++ 47 ∷ t) → IsUtf8 t
after_slash front t u =
    let bs = front ++ 47 ∷ t in
    let within : length front < length bs = omega (arith, length-append front (47 ∷ t)) in
    let ascii : get_or bs (length front) 0 < 128 = rw (get_or-append_seam front 47 t 0) (lit< tt) in
    subst IsUtf8 (drop-append-add front (47 ∷ t) 1) (IsUtf8-drop bs (length front + 1) u (IsCharBoundary-after_ascii bs (length front) u within ascii))

before_slash : (front t : List ℕ) → IsUtf8 (front ++ 47 ∷ t) → IsUtf8 front
before_slash front t u =
    let bs = front ++ 47 ∷ t in
    let within : length front < length bs = omega (arith, length-append front (47 ∷ t)) in
    let ascii : get_or bs (length front) 0 < 128 = rw (get_or-append_seam front 47 t 0) (lit< tt) in
    subst IsUtf8 (take-append_seam front (47 ∷ t)) (IsUtf8-take bs (length front) u (IsCharBoundary-before_ascii bs (length front) within ascii))

slash_utf8 : IsUtf8 (47 ∷ [])
slash_utf8 = subst IsUtf8 (encode_ascii 47 (lit< tt)) (IsUtf8-encode 47 refl)

-- ---- roots

-- a path that names a file or a folder
abbrev IsPath : List ℕ → Type 0
IsPath path = IsUtf8 path × (is_absolute path ≡ true)

-- what each root is
abbrev IsFolder : List ℕ → Type 0
IsFolder root = IsUtf8 root × ((root ≡ []) ⊎ (is_absolute root ≡ true))

begins : (x : List ℕ) → (x ++ 47 ∷ [] ≡ []) ⊎ (is_absolute (x ++ 47 ∷ []) ≡ true) → (x ≡ []) ⊎ (is_absolute x ≡ true)
begins [] h = inl refl
begins (b ∷ t) (inl e) = absurd (cc e)
begins (b ∷ t) (inr e) = inr (absolute_is b t ∙ sym (absolute_is b (t ++ 47 ∷ [])) ∙ e)

cut_folder : (x : List ℕ) → IsFolder (x ++ 47 ∷ []) → IsFolder x
cut_folder x h = (before_slash x [] h.0, begins x h.1)

trim_by : (b : ℕ) (q : List ℕ) (t : Bool) → (b == 47) ≡ t → IsFolder (reverse (b ∷ q)) → (IsFolder (reverse q) → IsFolder (reverse (without_slashes q))) → IsFolder (reverse (if t then without_slashes q else b ∷ q))
trim_by b q true e h more =
    let last : reverse (b ∷ q) ≡ reverse q ++ 47 ∷ [] = reverse-append (b ∷ []) q ∙ ap (λ (x : ℕ). reverse q ++ x ∷ []) (eqb-true b 47 e) in
    more (cut_folder (reverse q) (subst IsFolder last h))
trim_by b q false e h more = h

trim_folder : (q : List ℕ) → IsFolder (reverse q) → IsFolder (reverse (without_slashes q))
trim_folder [] h = h
trim_folder (b ∷ q) h = trim_by b q (b == 47) refl h (trim_folder q)

slash_decoded : (t : List ℕ) → is_absolute (percent_decode (47 ∷ t)) ≡ true
unfolding percent_decode
slash_decoded [] = refl
slash_decoded (a ∷ []) = refl
slash_decoded (a ∷ b ∷ t) = refl

decoded_absolute : (q : List ℕ) → is_absolute q ≡ true → is_absolute (percent_decode q) ≡ true
decoded_absolute q a = let s = absolute_split q a in subst (λ (x : List ℕ). is_absolute (percent_decode x) ≡ true) (sym s.1) (slash_decoded s.0)

some_same : (x y : List ℕ) → ◌≡◌ {A = Option (List ℕ)} (Some x) (Some y) → x ≡ y
some_same x y e = cc e

path_by_utf8 : (q p : List ℕ) (t : Bool) → is_utf8 (percent_decode q) ≡ t → is_absolute q ≡ true → ◌≡◌ {A = Option (List ℕ)} (if t then Some (percent_decode q) else None) (Some p) → IsPath p
path_by_utf8 q p false u a e = absurd (cc e)
path_by_utf8 q p true u a e =
    let is = some_same (percent_decode q) p e in
    (subst IsUtf8 is (IsUtf8-from_is_utf8 _ u), subst (λ (x : List ℕ). is_absolute x ≡ true) is (decoded_absolute q a))

path_by_test : (q p : List ℕ) (t : Bool) → is_absolute q ≡ t → option_and_then text_of (if t then Some q else None) ≡ Some p → IsPath p
path_by_test q p false a e = absurd (cc e)
path_by_test q p true a e = path_by_utf8 q p (is_utf8 (percent_decode q)) refl a e

path_by : (o : Option (List ℕ)) (p : List ℕ) → option_and_then text_of (option_and_then absolute o) ≡ Some p → IsPath p
path_by None p e = absurd (cc e)
path_by (Some q) p e = path_by_test q p (is_absolute q) refl e

path_named : (uri p : List ℕ) → decoded_path uri ≡ Some p → IsPath p
path_named uri p e = path_by (strip_prefix (codes "file://") uri) p e

folder_by : (o : Option (List ℕ)) → ((p : List ℕ) → o ≡ Some p → IsPath p) → IsFolder (unwrap_or (option_map without_last_slashes o) [])
folder_by None h = (IsUtf8-nil, inl refl)
folder_by (Some p) h = let path = h p refl in trim_folder (reverse p) (subst IsFolder (sym (reverse-reverse p)) (path.0, inr path.1))

root_folder : (u : Option (List ℕ)) → IsFolder (root_of u)
root_folder None = (IsUtf8-nil, inl refl)
root_folder (Some uri) = folder_by (decoded_path uri) (path_named uri)

-- ---- reading what was printed

printed_slash : (y : List ℕ) → path_of (codes "file://" ++ 47 ∷ y) ≡ Some (47 ∷ y)
printed_slash y = refl

text_back : (path : List ℕ) → IsUtf8 path → text_of (encoded path) ≡ Some path
text_back path u =
    let back = decoded_encoded path u in
    cond-true _ _ _ (ap is_utf8 back ∙ is_utf8-from_IsUtf8 path u) ∙ ap (λ (x : List ℕ). Some x) back

path_back : (path : List ℕ) → IsPath path → decoded_path (codes "file://" ++ encoded path) ≡ Some path
path_back path h =
    let s = absolute_split path h.1 in
    let e : encoded path ≡ 47 ∷ encoded s.0 = ap encoded s.1 ∙ encoded_slash s.0 in
    ap (λ (x : List ℕ). decoded_path (codes "file://" ++ x)) e ∙ ap (option_and_then text_of) (printed_slash (encoded s.0)) ∙ ap text_of (sym e) ∙ text_back path h.0

below_path : (root name : List ℕ) → IsFolder root → is_absolute (root ++ 47 ∷ name) ≡ true
below_path root name (u, inl e) = subst (λ (x : List ℕ). is_absolute (x ++ 47 ∷ name) ≡ true) (sym e) refl
below_path root name (u, inr a) = let s = absolute_split root a in subst (λ (x : List ℕ). is_absolute (x ++ 47 ∷ name) ≡ true) (sym s.1) refl

path_in_by : (root name : List ℕ) (t : Bool) → is_absolute name ≡ t → IsFolder root → IsUtf8 name → IsPath (if t then name else root ++ 47 ∷ name)
path_in_by root name true a h u = (u, a)
path_in_by root name false a h u = (IsUtf8-append root (47 ∷ name) h.0 (IsUtf8-append (47 ∷ []) name slash_utf8 u), below_path root name h)

uri_back : (root name : List ℕ) → IsFolder root → IsUtf8 name → file_of root (uri_of root name) ≡ file_at root (path_in root name)
unfolding file_of uri_of
uri_back root name h u = ap (option_and_then (file_at root)) (path_back (path_in root name) (path_in_by root name (is_absolute name) refl h u))

-- ---- the names that come back

strip_same : (prefix y : List ℕ) → strip_prefix prefix (prefix ++ y) ≡ Some y
strip_same prefix y = cond-true _ _ _ ((starts_is Decides-eqb (prefix ++ y) prefix _ refl).1 y refl) ∙ ap (λ (x : List ℕ). Some x) (drop-append_seam prefix y)

strip_by : (prefix text rest : List ℕ) (t : Bool) → starts_with nat_eq text prefix ≡ t → ◌≡◌ {A = Option (List ℕ)} (if t then Some (drop (length prefix) text) else None) (Some rest) → text ≡ prefix ++ rest
strip_by prefix text rest false s e = absurd (cc e)
strip_by prefix text rest true s e = (starts_is Decides-eqb text prefix _ refl).0 s ∙ ap (λ (x : List ℕ). prefix ++ x) (some_same _ rest e)

strip_split : (prefix text rest : List ℕ) → strip_prefix prefix text ≡ Some rest → text ≡ prefix ++ rest
strip_split prefix text rest e = strip_by prefix text rest (starts_with nat_eq text prefix) refl e

uri_by_test : (q path : List ℕ) (t : Bool) → is_absolute q ≡ t → ◌≡◌ {A = Option (List ℕ)} (if t then Some q else None) (Some path) → (rest : List ℕ) × (q ≡ 47 ∷ rest)
uri_by_test q path false a e = absurd (cc e)
uri_by_test q path true a e = absolute_split q a

uri_by : (uri path : List ℕ) (o : Option (List ℕ)) → strip_prefix (codes "file://") uri ≡ o → option_and_then absolute o ≡ Some path → (rest : List ℕ) × (uri ≡ codes "file:///" ++ rest)
uri_by uri path None s e = absurd (cc e)
uri_by uri path (Some q) s e =
    let found = uri_by_test q path (is_absolute q) refl e in
    (found.0, strip_split (codes "file://") uri q s ∙ ap (λ (x : List ℕ). codes "file://" ++ x) found.1)

-- what a URI is that names a path
pub path_uri : (uri path : List ℕ) → path_of uri ≡ Some path → (rest : List ℕ) × (uri ≡ codes "file:///" ++ rest)
path_uri uri path e = uri_by uri path (strip_prefix (codes "file://") uri) refl e

below_by : (root path rest : List ℕ) (o : Option (List ℕ)) → strip_prefix root path ≡ o → option_and_then (strip_prefix (codes "/")) o ≡ Some rest → path ≡ root ++ 47 ∷ rest
below_by root path rest None s e = absurd (cc e)
below_by root path rest (Some y) s e = strip_split root path y s ∙ ap (λ (x : List ℕ). root ++ x) (strip_split (codes "/") y rest e)

below_split : (root path rest : List ℕ) → below root path ≡ Some rest → path ≡ root ++ 47 ∷ rest
below_split root path rest e = below_by root path rest (strip_prefix root path) refl e

below_same : (root name : List ℕ) → below root (root ++ 47 ∷ name) ≡ Some name
below_same root name = ap (option_and_then (strip_prefix (codes "/"))) (strip_same root (47 ∷ name))

named : (x name : List ℕ) → name_of x ≡ Some name → (x ≡ name) × (is_some (name_of name) ≡ true)
named [] name e = absurd (cc e)
named (b ∷ t) name e = let is = some_same (b ∷ t) name e in (is, subst (λ (x : List ℕ). is_some (name_of x) ≡ true) is refl)

name_back : (name : List ℕ) → (name_of name ≡ Some name) ↔ (is_some (name_of name) ≡ true)
name_back [] = ((λ e. absurd (cc e)), λ e. absurd (cc e))
name_back (b ∷ t) = ((λ _. refl), λ _. refl)

absolute_back : (path : List ℕ) (o : Option (List ℕ)) → is_absolute path ≡ true → (file_below path o ≡ Some path) ↔ (not (is_some o) ≡ true)
absolute_back path None a = ((λ _. refl), λ _. refl)
absolute_back path (Some rest) a =
    ((λ e. let is = (named (without_slashes rest) path e).0 in let bad : true ≡ false = sym a ∙ sym (ap is_absolute is) ∙ trimmed_relative rest in absurd (cc bad)), λ e. absurd (cc e))

back_by : (root name : List ℕ) (t : Bool) → is_absolute name ≡ t → (file_at root (if t then name else root ++ 47 ∷ name) ≡ Some name) ↔ ((if t then not (is_some (below root name)) else is_some (name_of name)) ≡ true)
back_by root name true a = absolute_back name (below root name) a
back_by root name false a =
    let same : file_at root (root ++ 47 ∷ name) ≡ name_of name = ap (file_below (root ++ 47 ∷ name)) (below_same root name) ∙ ap name_of (no_slashes name a) in
    let both = name_back name in
    ((λ e. both.0 (sym same ∙ e)), λ e. same ∙ both.1 e)

-- the names that come back
pub comes_back : (u : Option (List ℕ)) (name : List ℕ) → IsUtf8 name → (file_of (root_of u) (uri_of (root_of u) name) ≡ Some name) ↔ (is_file_name (root_of u) name ≡ true)
comes_back u name utf8 =
    let root = root_of u in
    let same = uri_back root name (root_folder u) utf8 in
    let both = back_by root name (is_absolute name) refl in
    ((λ e. both.0 (sym same ∙ e)), λ e. same ∙ both.1 e)

-- ---- the names that URIs have

trimmed_utf8_by : (b : ℕ) (front rest : List ℕ) (t : Bool) → (b == 47) ≡ t → IsUtf8 (front ++ 47 ∷ b ∷ rest) → ((more : List ℕ) → IsUtf8 (more ++ 47 ∷ rest) → IsUtf8 (without_slashes rest)) → IsUtf8 (if t then without_slashes rest else b ∷ rest)
trimmed_utf8_by b front rest false e u more = after_slash front (b ∷ rest) u
trimmed_utf8_by b front rest true e u more =
    let moved : front ++ 47 ∷ b ∷ rest ≡ (front ++ 47 ∷ []) ++ 47 ∷ rest = ap (λ (x : ℕ). front ++ 47 ∷ x ∷ rest) (eqb-true b 47 e) ∙ sym (append_assoc front (47 ∷ []) (47 ∷ rest)) in
    more (front ++ 47 ∷ []) (subst IsUtf8 moved u)

trimmed_utf8 : (rest front : List ℕ) → IsUtf8 (front ++ 47 ∷ rest) → IsUtf8 (without_slashes rest)
trimmed_utf8 [] front u = IsUtf8-nil
trimmed_utf8 (b ∷ rest) front u = trimmed_utf8_by b front rest (b == 47) refl u (trimmed_utf8 rest)

-- a name that a URI has
abbrev IsNamed : List ℕ → List ℕ → Type 0
IsNamed root name = IsUtf8 name × (is_file_name root name ≡ true)

itself : (root path : List ℕ) → IsPath path → below root path ≡ None → IsNamed root path
itself root path h e = (h.0, cond-true _ _ _ h.1 ∙ ap (λ (o : Option (List ℕ)). not (is_some o)) e)

relative_named : (root name : List ℕ) → IsUtf8 name → is_absolute name ≡ false → is_some (name_of name) ≡ true → IsNamed root name
relative_named root name u a some = (u, cond-false _ _ _ a ∙ some)

named_by : (root path name : List ℕ) (o : Option (List ℕ)) → IsPath path → below root path ≡ o → file_below path o ≡ Some name → IsNamed root name
named_by root path name None h b e = subst (IsNamed root) (some_same path name e) (itself root path h b)
named_by root path name (Some rest) h b e =
    let is = named (without_slashes rest) name e in
    let utf8 = trimmed_utf8 rest root (subst IsUtf8 (below_split root path rest b) h.0) in
    relative_named root name (subst IsUtf8 is.0 utf8) (subst (λ (x : List ℕ). is_absolute x ≡ false) is.0 (trimmed_relative rest)) is.1

named_from : (root : List ℕ) (o : Option (List ℕ)) (name : List ℕ) → ((path : List ℕ) → o ≡ Some path → IsPath path) → option_and_then (file_at root) o ≡ Some name → IsNamed root name
named_from root None name h e = absurd (cc e)
named_from root (Some path) name h e = named_by root path name (below root path) (h path refl) refl e

-- each URI names such a text
pub uri_names : (root uri name : List ℕ) → file_of root uri ≡ Some name → IsNamed root name
unfolding file_of
uri_names root uri name e = named_from root (decoded_path uri) name (path_named uri) e
