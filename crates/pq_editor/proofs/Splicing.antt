-- Lists that were printed before, put into a report.
use Rattle.std.proofs.Common.{◌≡◌, ℕ, zero, suc, ◌+◌, ◌/◌, ◌%◌, ◌<◌, ◌≤◌, ◌==◌, ℤ, pos, negsuc, Bool, true, false, List, [], ◌∷◌, ◌++◌, Option, Some, None, refl, sym, ap, ◌∙◌, subst, arith, append_assoc}
use Rattle.std.specs.Prelude.{codes, decimal, if◌then◌else◌, map, option_map, string_bytes}
use Rattle.std.specs.Fmt.{digits, digits_onto, digit_glyph}
use Rattle.std.specs.List.{All}
use Rattle.std.proofs.lemmas.Bool.Decides.{nat_tests}
use Rattle.std.proofs.lemmas.List.Elements.{All-head, All-tail}
use Rattle.json.specs.Print.{escape, escape_byte}
use Rattle.serde_json.specs.Data.{Data, string}
use Rattle.serde_json.specs.View.{items_of}
use Rattle.serde_json.specs.Written.{compact_text, items_text, members_text}
use Rattle.pq_editor.specs.Reports.{file_data, file_text, files_text, HasList, kind_text, later_text, rest_members, rest_text, version_data, version_text, workspace_data, workspace_text}
use Rattle.pq_editor.specs.declared.reports.FileReport.{FileReport}

-- ---- numbers have no escapes

either_plain : (b : Bool) (xs ys : List ℕ) → escape xs ≡ xs → escape ys ≡ ys → escape (if b then xs else ys) ≡ (if b then xs else ys)
either_plain true xs ys first other = first
either_plain false xs ys first other = other

plain_byte : (x : ℕ) → 48 ≤ x → x ≤ 57 → escape_byte x ≡ x ∷ []
unfolding escape_byte
plain_byte x least most = grind (arith, nat_tests)

digit_is_plain : (d : ℕ) → d < 10 → escape_byte (digit_glyph false d) ≡ digit_glyph false d ∷ []
digit_is_plain d small =
    let is : digit_glyph false d ≡ 48 + d = grind (arith, nat_tests) in
    subst (λ (x : ℕ). escape_byte x ≡ x ∷ []) (sym is) (plain_byte (48 + d) (omega arith) (omega arith))

plain_more : (x : ℕ) (xs : List ℕ) → escape_byte x ≡ x ∷ [] → escape xs ≡ xs → escape (x ∷ xs) ≡ x ∷ xs
plain_more x xs one rest = rw (one, rest) refl

digits_are_plain : (k n : ℕ) (acc : List ℕ) → escape acc ≡ acc → escape (digits_onto k 10 false n acc) ≡ digits_onto k 10 false n acc
digits_are_plain zero n acc plain = plain
digits_are_plain (suc k) n acc plain =
    let d = digit_glyph false (n % 10) in
    let more : escape (d ∷ acc) ≡ d ∷ acc = plain_more d acc (digit_is_plain (n % 10) (omega arith)) plain in
    either_plain (n / 10 == 0) (d ∷ acc) (digits_onto k 10 false (n / 10) (d ∷ acc)) more (digits_are_plain k (n / 10) (d ∷ acc) more)

decimal_is_plain : (n : ℕ) → escape (decimal n) ≡ decimal n
unfolding digits
decimal_is_plain n = digits_are_plain 64 n [] refl

-- ---- one file

version_spliced : (version : Option ℤ) → compact_text (version_data version) ≡ version_text version
version_spliced None = refl
version_spliced (Some (pos n)) = refl
version_spliced (Some (negsuc n)) = refl

-- `rest_with r version` is the members of the report `r` after its `resultId`, where `version` is the
-- text of its version
abbrev rest_with : FileReport → List ℕ → List ℕ
rest_with r version = codes ",\"uri\":" ++ (compact_text (string (string_bytes r.uri)) ++ (codes ",\"version\":" ++ (version ++ codes "}")))

-- the members after the kind
rest_spliced : (r : FileReport) → rest_text r ≡ members_text true (rest_members r)
unfolding escape_byte
rest_spliced r =
    let start = codes ",\"resultId\":\"" in
    let quote : List ℕ = 34 ∷ [] in
    ap (λ (ts : List ℕ). start ++ ts) (sym (append_assoc (decimal r.result) quote (rest_with r (version_text r.version))))
    ∙ ap (λ (version : List ℕ). start ++ ((decimal r.result ++ quote) ++ rest_with r version)) (sym (version_spliced r.version))
    ∙ ap (λ (n : List ℕ). start ++ ((n ++ quote) ++ rest_with r (compact_text (version_data r.version)))) (sym (decimal_is_plain r.result))

kind_spliced : (r : FileReport) (list : Option Data) → kind_text (option_map compact_text list) ++ members_text true (rest_members r) ≡ compact_text (file_data r list)
unfolding escape_byte
kind_spliced r None = refl
kind_spliced r (Some list) =
    ap (λ (ts : List ℕ). codes "{\"items\":" ++ ts) (append_assoc (compact_text list) (codes ",\"kind\":\"full\"") (members_text true (rest_members r)))

file_spliced : (list_of : FileReport → Option Data) (r : FileReport) → HasList list_of r → file_text r ≡ compact_text (file_data r (list_of r))
file_spliced list_of r is =
    ap (λ (rest : List ℕ). kind_text (option_map string_bytes r.list) ++ rest) (rest_spliced r)
    ∙ ap (λ (list : Option (List ℕ)). kind_text list ++ members_text true (rest_members r)) is
    ∙ kind_spliced r (list_of r)

-- ---- all files

module _ (list_of : FileReport → Option Data) where
  later_spliced : (rs : List FileReport) (end : List ℕ) → All (HasList list_of) rs
      → later_text rs ++ (93 ∷ end) ≡ items_text true (items_of (map (λ r. file_data r (list_of r)) rs)) ++ end
  later_spliced [] end lists = refl
  later_spliced (r ∷ rs) end lists =
      let rest = items_text true (items_of (map (λ r. file_data r (list_of r)) rs)) in
      let tail : later_text rs ++ (93 ∷ end) ≡ rest ++ end = later_spliced rs end (All-tail (HasList list_of) r rs lists) in
      ap (λ (ts : List ℕ). 44 ∷ ts) (append_assoc (file_text r) (later_text rs) (93 ∷ end)
      ∙ ap (λ (ts : List ℕ). file_text r ++ ts) tail
      ∙ ap (λ (ts : List ℕ). ts ++ (rest ++ end)) (file_spliced list_of r (All-head (HasList list_of) r rs lists))
      ∙ sym (append_assoc (compact_text (file_data r (list_of r))) rest end))

  files_spliced : (rs : List FileReport) (end : List ℕ) → All (HasList list_of) rs
      → files_text rs ++ (93 ∷ end) ≡ items_text false (items_of (map (λ r. file_data r (list_of r)) rs)) ++ end
  files_spliced [] end lists = refl
  files_spliced (r ∷ rs) end lists =
      let rest = items_text true (items_of (map (λ r. file_data r (list_of r)) rs)) in
      let tail : later_text rs ++ (93 ∷ end) ≡ rest ++ end = later_spliced rs end (All-tail (HasList list_of) r rs lists) in
      append_assoc (file_text r) (later_text rs) (93 ∷ end)
      ∙ ap (λ (ts : List ℕ). file_text r ++ ts) tail
      ∙ ap (λ (ts : List ℕ). ts ++ (rest ++ end)) (file_spliced list_of r (All-head (HasList list_of) r rs lists))
      ∙ sym (append_assoc (compact_text (file_data r (list_of r))) rest end)

  pub workspace_is_spliced : (rs : List FileReport) → All (HasList list_of) rs → workspace_text rs ≡ compact_text (workspace_data list_of rs)
  unfolding escape_byte
  workspace_is_spliced rs lists = ap (λ (ts : List ℕ). codes "{\"items\":[" ++ ts) (files_spliced rs (125 ∷ []) lists)
