-- Responses that are printed token by token, and results that were printed before.
use Rattle.std.proofs.Common.{◌≡◌, ℕ, zero, suc, ◌+◌, ◌/◌, ◌%◌, ◌<◌, ◌≤◌, ◌==◌, ℤ, pos, negsuc, Bool, true, false, List, [], ◌∷◌, ◌++◌, refl, sym, ap, ◌∙◌, subst, arith, append_assoc}
use Rattle.std.specs.Prelude.{codes, decimal, if◌then◌else◌}
use Rattle.std.specs.Fmt.{digits, digits_onto, digit_glyph, signed_decimal}
use Rattle.std.proofs.lemmas.Bool.Decides.{nat_tests}
use Rattle.json.specs.Print.{escape, escape_byte, print, print_from}
use Rattle.json.specs.Token.{Token}
use Rattle.serde_json.specs.Data.{Data, string, number, object, member, no_members}
use Rattle.serde_json.specs.Find.{of_integer}
use Rattle.serde_json.specs.Written.{compact_text}
use Rattle.serde_json.proofs.Texts.{print-outline}
use Rattle.pq_frame.specs.Labels.{LabelModel, no_label, integer_label, text_label, label_data}
use Rattle.pq_proto.specs.aux.Printed.{tokens_of}
use Rattle.pq_proto.proofs.ListSteps.{link}
use Rattle.pq_session.specs.Reply.{reply_data, result_start, result_text, descriptor_data, descriptor_text}
use Rattle.pq_session.specs.aux.Starts.{start_tokens}

-- ---- texts that are printed as they are

either_plain : (b : Bool) (xs ys : List ℕ) → escape xs ≡ xs → escape ys ≡ ys → escape (if b then xs else ys) ≡ (if b then xs else ys)
either_plain true xs ys first other = first
either_plain false xs ys first other = other

plain_byte : (x : ℕ) → 48 ≤ x → x ≤ 57 → escape_byte x ≡ x ∷ []
unfolding escape_byte
plain_byte x least most = grind (arith, nat_tests)

digit_is_plain : (d : ℕ) → d < 10 → escape_byte (digit_glyph false d) ≡ digit_glyph false d ∷ []
digit_is_plain d small =
    let is : digit_glyph false d ≡ 48 + d = grind (arith, nat_tests) in
    subst (λ (x : ℕ). escape_byte x ≡ x ∷ []) (sym is) (plain_byte (48 + d) (omega arith) (omega arith))

plain_more : (x : ℕ) (xs : List ℕ) → escape_byte x ≡ x ∷ [] → escape xs ≡ xs → escape (x ∷ xs) ≡ x ∷ xs
plain_more x xs one rest = rw (one, rest) refl

digits_are_plain : (k n : ℕ) (acc : List ℕ) → escape acc ≡ acc → escape (digits_onto k 10 false n acc) ≡ digits_onto k 10 false n acc
digits_are_plain zero n acc plain = plain
digits_are_plain (suc k) n acc plain =
    let d = digit_glyph false (n % 10) in
    let more : escape (d ∷ acc) ≡ d ∷ acc = plain_more d acc (digit_is_plain (n % 10) (omega arith)) plain in
    either_plain (n / 10 == 0) (d ∷ acc) (digits_onto k 10 false (n / 10) (d ∷ acc)) more (digits_are_plain k (n / 10) (d ∷ acc) more)

decimal_is_plain : (n : ℕ) → escape (decimal n) ≡ decimal n
unfolding digits
decimal_is_plain n = digits_are_plain 64 n [] refl

-- ---- results

pub result_spliced : (label : LabelModel) (d : Data) → result_text label (compact_text d) ≡ compact_text (reply_data (label_data label) d)
unfolding result_text escape_byte
result_spliced label d = simp append_assoc

-- ---- a response that is printed token by token

pub integer_tokens : (z : ℤ) → tokens_of (number (of_integer z)) ≡ Token.number (signed_decimal z) ∷ []
integer_tokens (pos n) = refl
integer_tokens (negsuc n) = refl

pub start_text : (label : LabelModel) → print (start_tokens label) ≡ result_start label
unfolding print_from escape_byte
start_text no_label = refl
start_text (integer_label (pos n)) = refl
start_text (integer_label (negsuc n)) = refl
start_text (text_label text) = simp append_assoc

pub printed_reply : (label : LabelModel) (d : Data) (empty start done out : List Token)
    → empty ≡ [] → start ≡ empty ++ start_tokens label → done ≡ start ++ tokens_of d → out ≡ done ++ Token.end_object ∷ []
    → print out ≡ compact_text (reply_data (label_data label) d)
printed_reply label d empty start done out none starts adds ends =
    let rest : List Token = tokens_of d ++ Token.end_object ∷ [] in
    let first : start ≡ start_tokens label = starts ∙ ap (λ (ts : List Token). ts ++ start_tokens label) none in
    let all : out ≡ start_tokens label ++ rest = link start done out (tokens_of d) (Token.end_object ∷ []) adds ends ∙ ap (λ (ts : List Token). ts ++ rest) first in
    let more : List Token = Token.key (codes "jsonrpc") ∷ Token.string (codes "2.0") ∷ Token.key (codes "result") ∷ [] in
    let whole : out ≡ tokens_of (reply_data (label_data label) d) =
    all ∙ ap (λ (ts : List Token). Token.begin_object ∷ Token.key (codes "id") ∷ ts) (append_assoc (tokens_of (label_data label)) more rest) in
    ap print whole ∙ print-outline (reply_data (label_data label) d)

-- data that is printed alone
pub printed_alone : (d : Data) (empty out : List Token) → empty ≡ [] → out ≡ empty ++ tokens_of d → print out ≡ compact_text d
printed_alone d empty out none adds = ap print (adds ∙ ap (λ (ts : List Token). ts ++ tokens_of d) none) ∙ print-outline d

-- the text of a revision is printed without escapes
revision_spliced : (label : LabelModel) (d : Data) (text : List ℕ)
    → result_start label ++ (codes "{\"file\":" ++ (compact_text d ++ (codes ",\"revision\":\"" ++ (escape text ++ codes "\"}}"))))
    ≡ compact_text (reply_data (label_data label) (object (member (codes "file") d (member (codes "revision") (string text) no_members))))
unfolding escape_byte
revision_spliced label d text = simp append_assoc

pub descriptor_is_spliced : (label : LabelModel) (d : Data) (revision : ℕ) → descriptor_text label (compact_text d) revision ≡ compact_text (reply_data (label_data label) (descriptor_data d revision))
unfolding descriptor_text
descriptor_is_spliced label d revision =
    ap (λ (number : List ℕ). result_start label ++ (codes "{\"file\":" ++ (compact_text d ++ (codes ",\"revision\":\"" ++ (number ++ codes "\"}}"))))) (sym (decimal_is_plain revision))
    ∙ revision_spliced label d (decimal revision)
