-- The plain form of URIs, and members that are changed in their place.
use Rattle.std.proofs.Common.{◌≡◌, refl, sym, ◌∙◌, ap, ap₂, cond, ℕ, suc, ◌+◌, ◌<◌, ◌==◌, List, [], ◌∷◌, ◌++◌, length, drop, Bool, true, false, Option, Some, None, option_map, Result, Ok, Err, is_eq, nat_cmp, String, Global, Bor, MatchOption, add-one, inl, inr, arith, ◌⊎◌}
use Rattle.std.specs.Prelude.{codes, if◌then◌else◌, string_bytes, OnOk}
use Rattle.std.specs.List.{before_first, after_first, position_or_len}
use Rattle.std.specs.Map.{lookup, set_value}
use Rattle.std.specs.BTreeMap.{is_at}
use Rattle.std.specs.Cmp.Lexicographic.{slice_cmp}
use Rattle.std.specs.Str.{bytes_eq}
use Rattle.std.proofs.lemmas.Bool.{cases_Bool}
use Rattle.std.proofs.lemmas.Map.Text.{is_eq-slice_cmp}
use Rattle.serde_json.specs.Data.{Data, Members, null, boolean, number, string, array, object, member, no_members}
use Rattle.serde_json.specs.Find.{as_str, as_object}
use Rattle.serde_json.specs.View.{view, members_view}
use Rattle.serde_json.specs.declared.value.Value.{Value}
use Rattle.pq_session.specs.Uri.{cut_at, path_of, plain_rest, plain_by, plain_uri}
use Rattle.pq_session.specs.Plain.{with_change, within, plain_string}
use Rattle.pq_session.proofs.RootLemmas.{path_uri}

-- ---- a text that is cut at a byte

one_more : (n : ℕ) → 1 + n ≡ suc n
one_more n = omega arith

-- `with_first x parts` is `parts`, with `x` before the first
abbrev with_first : ℕ → List ℕ × List ℕ → List ℕ × List ℕ
with_first x parts = (x ∷ parts.0, parts.1)

cut_some : (b : ℕ) (t : List ℕ) → position_or_len (λ x. x == b) t < length t → cut_at b t ≡ Some (before_first (λ x. x == b) t, after_first (λ x. x == b) t)
cut_some b [] h = absurd (omega arith)
cut_some b (x ∷ rest) h = elim (cases_Bool (x == b)) [
  | inl e ↦ rw e refl
  | inr e ↦ (let more : 1 + position_or_len (λ y. y == b) rest < suc (length rest) = rw e at h in
      rw (e, one_more (position_or_len (λ y. y == b) rest), add-one) (rw add-one at (ap (option_map (with_first x)) (cut_some b rest (omega arith)))))
]

cut_none : (b : ℕ) (t : List ℕ) → position_or_len (λ x. x == b) t ≡ length t → cut_at b t ≡ None
cut_none b [] h = refl
cut_none b (x ∷ rest) h = elim (cases_Bool (x == b)) [
  | inl e ↦ absurd (let z : 0 ≡ suc (length rest) = rw e at h in omega arith)
  | inr e ↦ (let z : 1 + position_or_len (λ y. y == b) rest ≡ suc (length rest) = rw e at h in
      rw e (ap (option_map (with_first x)) (cut_none b rest (omega arith))))
]

-- what `split_once` says
pub cut_is : (b : ℕ) (t : List ℕ) (r : Option (Bor (List ℕ) × Bor (List ℕ)))
    → MatchOption r (position_or_len (λ x. x == b) t ≡ length t) (λ x. (x.0.now ≡ before_first (λ y. y == b) t) × (x.1.now ≡ after_first (λ y. y == b) t) × (position_or_len (λ y. y == b) t < length t))
    → option_map (λ parts. (parts.0.now, parts.1.now)) r ≡ cut_at b t
cut_is b t None h = sym (cut_none b t h)
cut_is b t (Some x) h = ap₂ (λ (p q : List ℕ). Some (p, q)) h.0 h.1 ∙ sym (cut_some b t h.2)

-- ---- plain forms

rest_plain : (rest : List ℕ) → plain_rest (codes "file:///" ++ rest) ≡ Some rest
rest_plain rest = refl

form_plain : (rest : List ℕ) → plain_uri (codes "file:///" ++ rest) ≡ codes "file:///" ++ rest
unfolding plain_uri
form_plain rest = ap (plain_by (codes "file:///" ++ rest)) (rest_plain rest)

plain_again : (uri : List ℕ) (rest : Option (List ℕ)) → plain_rest uri ≡ rest → plain_uri (plain_by uri rest) ≡ plain_by uri rest
unfolding plain_uri
plain_again uri None e = ap (plain_by uri) e
plain_again uri (Some rest) e = form_plain rest

pub plain_twice : (uri : List ℕ) → plain_uri (plain_uri uri) ≡ plain_uri uri
unfolding plain_uri
plain_twice uri = plain_again uri (plain_rest uri) refl

-- a URI that names a path is plain
pub plain_named : (uri path : List ℕ) → path_of uri ≡ Some path → plain_uri uri ≡ uri
plain_named uri path e =
    let found = path_uri uri path e in
    ap plain_uri found.1 ∙ form_plain found.0 ∙ sym found.1

-- ---- values

pub plain_of_text : (d : Data) (text plain : List ℕ) → Some text ≡ as_str d → plain ≡ plain_uri text → string plain ≡ plain_string d
plain_of_text (string t) text plain e is = let same : text ≡ t = cc e in ap string (is ∙ ap plain_uri same)
plain_of_text null text plain e is = absurd (cc e)
plain_of_text (boolean b) text plain e is = absurd (cc e)
plain_of_text (number n) text plain e is = absurd (cc e)
plain_of_text (array ds) text plain e is = absurd (cc e)
plain_of_text (object ms) text plain e is = absurd (cc e)

pub plain_of_other : (d : Data) → None ≡ as_str d → d ≡ plain_string d
plain_of_other (string t) e = absurd (cc e)
plain_of_other null e = refl
plain_of_other (boolean b) e = refl
plain_of_other (number n) e = refl
plain_of_other (array ds) e = refl
plain_of_other (object ms) e = refl

pub within_other : (name : List ℕ) (change : Data → Data) (d : Data) → None ≡ as_object d → d ≡ within name change d
within_other name change null e = refl
within_other name change (boolean b) e = refl
within_other name change (number n) e = refl
within_other name change (string t) e = refl
within_other name change (array ds) e = refl
within_other name change (object ms) e = absurd (cc e)

pub within_members : (name : List ℕ) (change : Data → Data) (ms : Members) (d : Data) → Some ms ≡ as_object d → object (with_change name change ms) ≡ within name change d
within_members name change ms (object xs) e = let same : ms ≡ xs = cc e in ap (λ (x : Members). object (with_change name change x)) same
within_members name change ms null e = absurd (cc e)
within_members name change ms (boolean b) e = absurd (cc e)
within_members name change ms (number n) e = absurd (cc e)
within_members name change ms (string t) e = absurd (cc e)
within_members name change ms (array ds) e = absurd (cc e)

-- ---- members

abbrev Entry : Type 0
Entry = String Global × Value

-- the entries of a map
abbrev pub Entries : Type 0
Entries = List Entry

-- the test by which a map finds a name
abbrev named : List ℕ → String Global → Bool
named name = is_at (λ (k : String Global). slice_cmp nat_cmp name (string_bytes k))

members_cond : (t : Bool) (a b : List Entry) → members_view (cond t a b) ≡ cond t (members_view a) (members_view b)
members_cond true a b = refl
members_cond false a b = refl

-- one entry before the others, by whether it has the name
set_first : (name : List ℕ) (change : Data → Data) (e : Entry) (es : List Entry) (v w : Value) (t : Bool) → bytes_eq name (string_bytes e.0) ≡ t
    → cond t (Some e.1) (lookup (named name) es) ≡ Some v → view w ≡ change (view v)
    → (lookup (named name) es ≡ Some v → members_view (set_value (named name) es w) ≡ with_change name change (members_view es))
    → members_view (cond t ((e.0, w) ∷ es) (e ∷ set_value (named name) es w)) ≡ (if t then member (string_bytes e.0) (change (view e.1)) (members_view es) else member (string_bytes e.0) (view e.1) (with_change name change (members_view es)))
set_first name change e es v w true is found made more = let same : e.1 ≡ v = cc found in ap (λ (d : Data). member (string_bytes e.0) d (members_view es)) (made ∙ ap (λ (x : Value). change (view x)) (sym same))
set_first name change e es v w false is found made more = ap (member (string_bytes e.0) (view e.1)) (more found)

-- a value that is written over the member of a name
pub set_changes : (name : List ℕ) (change : Data → Data) (es : List Entry) (v w : Value) → lookup (named name) es ≡ Some v → view w ≡ change (view v)
    → members_view (set_value (named name) es w) ≡ with_change name change (members_view es)
set_changes name change [] v w found made = absurd (cc found)
set_changes name change (e ∷ es) v w found made =
    let t = is_eq-slice_cmp name (string_bytes e.0) in
    ap (λ (b : Bool). members_view (cond b ((e.0, w) ∷ es) (e ∷ set_value (named name) es w))) t
    ∙ set_first name change e es v w (bytes_eq name (string_bytes e.0)) refl (ap (λ (b : Bool). cond b (Some e.1) (lookup (named name) es)) (sym t) ∙ found) made (λ later. set_changes name change es v w later made)

none_first : (name : List ℕ) (change : Data → Data) (e : Entry) (es : List Entry) (t : Bool) → cond t (Some e.1) (lookup (named name) es) ≡ None
    → (lookup (named name) es ≡ None → with_change name change (members_view es) ≡ members_view es)
    → (if t then member (string_bytes e.0) (change (view e.1)) (members_view es) else member (string_bytes e.0) (view e.1) (with_change name change (members_view es))) ≡ members_view (e ∷ es)
none_first name change e es true found more = absurd (cc found)
none_first name change e es false found more = ap (member (string_bytes e.0) (view e.1)) (more found)

-- nothing changes where no member has the name
pub none_changes : (name : List ℕ) (change : Data → Data) (es : List Entry) → lookup (named name) es ≡ None → with_change name change (members_view es) ≡ members_view es
none_changes name change [] found = refl
none_changes name change (e ∷ es) found =
    none_first name change e es (bytes_eq name (string_bytes e.0)) (ap (λ (b : Bool). cond b (Some e.1) (lookup (named name) es)) (sym (is_eq-slice_cmp name (string_bytes e.0))) ∙ found) (none_changes name change es)

-- where a call succeeds, so does what follows from it
pub made_so : {X Y A B : Type 0} (answer : Result X Y) → (A → B) → OnOk answer A → OnOk answer B
made_so (Ok x) f a = f a
made_so (Err e) f a = tt
