-- Prefixes of texts, and paths whose escapes are bytes of UTF-8.
use Rattle.std.proofs.Common.{◌≡◌, refl, sym, ◌∙◌, ap, subst, ℕ, List, [], ◌∷◌, ◌++◌, ◌-◌, length, take, drop, reverse, take-append-drop, true, false, ◌==◌, Bor, Option, Some, None, option_map, MatchOption, IfSome, arith, lit<, ◌≢◌}
use Rattle.std.specs.Str.{IsUtf8, IsCharBoundary}
use Rattle.std.specs.Str.Pattern.{FindsTextPrefix, FindsCharPrefix, FindsCharSuffix, StripsPrefix, CutsPrefixes, CutsSuffixes, IsTrimStartMatches, IsTrimEndMatches}
use Rattle.std.proofs.lemmas.Str.{len_utf8_ascii, is_utf8-from_IsUtf8, IsUtf8-from_is_utf8}
use Rattle.std.proofs.lemmas.Str.Pattern.{starts_text, drop_at_char, strip_prefix_char, strip_suffix_char}
use Rattle.std.proofs.lemmas.Bool.{cond-true, cond-false, eqb-true, false_from_ne_true}
use Rattle.std.proofs.Math.Seq.{drop-length}
use Rattle.std.proofs.lemmas.List.{reverse-append, reverse-reverse}
use Rattle.percent_encoding.specs.Percent.{percent_decode}
use Rattle.pq_session.specs.Uri.{strip_prefix, without_slashes, without_last_slashes, text_of}

-- what `strip_prefix` says
pub strip_prefix_is : (prefix text : List ℕ) (r : Option (Bor (List ℕ))) → MatchOption r (FindsTextPrefix prefix text None) (λ x. StripsPrefix (FindsTextPrefix prefix) text x.now) → option_map (λ rest. rest.now) r ≡ strip_prefix prefix text
strip_prefix_is prefix text None h = sym (cond-false _ _ _ (sym (starts_text false prefix text h)))
strip_prefix_is prefix text (Some x) h =
    let boundary = subst (λ k. IsCharBoundary text k) (sym h.1.0) h.1.2 in
    let starts = starts_text true prefix text (h.0, h.1, boundary) in
    let rest : x.now ≡ drop (length prefix) text = h.2 ∙ ap (λ k. drop k text) h.1.0 in
    ap Some rest ∙ sym (cond-true _ _ _ (sym starts))

cuts_kept : (s ns r : List ℕ) → CutsPrefixes (FindsCharPrefix 47) s ns r → without_slashes r ≡ without_slashes s
cuts_kept s [] r h = ap without_slashes h
cuts_kept s (n ∷ ns) r h =
    let m = h.0 in
    let split : m ≡ 47 ∷ drop n m = drop_at_char 47 m 0 n h.2 (lit< tt) in
    let one : without_slashes m ≡ without_slashes (drop n m) = ap without_slashes split in
    ap without_slashes h.3 ∙ sym one ∙ cuts_kept s ns m h.1

pub kept_whole : (r : List ℕ) → ((rest : List ℕ) → r ≢ 47 ∷ rest) → without_slashes r ≡ r
kept_whole [] h = refl
kept_whole (b ∷ rest) h = cond-false (b == 47) _ _ (false_from_ne_true _ (λ e. h rest (ap (λ x. x ∷ rest) (eqb-true b 47 e))))

trimmed_whole : (r : List ℕ) (o : Option ℕ) → FindsCharPrefix 47 r o → IfSome o (λ n. n ≡ 0) → (rest : List ℕ) → r ≢ 47 ∷ rest
trimmed_whole r None h zero = strip_prefix_char 47 r None h (lit< tt)
trimmed_whole r (Some n) h zero = let width = len_utf8_ascii 47 (lit< tt) in let bad : ⊥ = omega (arith, h.ends, zero, width) in absurd bad

-- what `trim_start_matches` says
pub trimmed_is : (s r : List ℕ) → IsTrimStartMatches (FindsCharPrefix 47) s r → r ≡ without_slashes s
trimmed_is s r h = sym (kept_whole r (trimmed_whole r h.1.0 h.1.1 h.1.2)) ∙ cuts_kept s h.0.0 r h.0.1

-- what `decode_utf8` says
pub text_is : (path bytes text : List ℕ) → bytes ≡ percent_decode path → IsUtf8 bytes → text ≡ bytes → Some text ≡ text_of path
text_is path bytes text is utf8 same =
    ap Some (same ∙ is) ∙ sym (cond-true _ _ _ (is_utf8-from_IsUtf8 _ (subst IsUtf8 is utf8)))

pub no_text : (path bytes : List ℕ) → bytes ≡ percent_decode path → ¬ (IsUtf8 bytes) → None ≡ text_of path
no_text path bytes is bad =
    sym (cond-false _ _ _ (false_from_ne_true _ (λ e. bad (subst IsUtf8 (sym is) (IsUtf8-from_is_utf8 _ e)))))

-- ---- slashes at the end

cuts_end_kept : (s ns r : List ℕ) → CutsSuffixes (FindsCharSuffix 47) s ns r → without_last_slashes r ≡ without_last_slashes s
cuts_end_kept s [] r h = ap without_last_slashes h
cuts_end_kept s (n ∷ ns) r h =
    let m = h.0 in
    let last : drop (length m - n) m ≡ 47 ∷ drop (length m) m = drop_at_char 47 m (length m - n) (length m) h.2.1 (lit< tt) in
    let split : m ≡ r ++ 47 ∷ [] = sym (take-append-drop (length m - n) m) ∙ ap (λ (x : List ℕ). take (length m - n) m ++ x) (last ∙ ap (λ (x : List ℕ). 47 ∷ x) (drop-length m)) ∙ ap (λ (x : List ℕ). x ++ 47 ∷ []) (sym h.3) in
    let one : without_last_slashes m ≡ without_last_slashes r = ap (λ (x : List ℕ). reverse (without_slashes x)) (ap reverse split ∙ reverse-append r (47 ∷ [])) in
    sym one ∙ cuts_end_kept s ns m h.1

kept_end : (r : List ℕ) → ((front : List ℕ) → r ≢ front ++ 47 ∷ []) → without_last_slashes r ≡ r
kept_end r h = ap reverse (kept_whole (reverse r) (λ rest e. h (reverse rest) (sym (reverse-reverse r) ∙ ap reverse e ∙ reverse-append (47 ∷ []) rest))) ∙ reverse-reverse r

trimmed_end : (r : List ℕ) (o : Option ℕ) → FindsCharSuffix 47 r o → IfSome o (λ n. n ≡ 0) → (front : List ℕ) → r ≢ front ++ 47 ∷ []
trimmed_end r None h zero = strip_suffix_char 47 r None h (lit< tt)
trimmed_end r (Some n) h zero = let width = len_utf8_ascii 47 (lit< tt) in let bad : ⊥ = omega (arith, h.0, zero, width) in absurd bad

-- what `trim_end_matches` says
pub trimmed_end_is : (s r : List ℕ) → IsTrimEndMatches (FindsCharSuffix 47) s r → r ≡ without_last_slashes s
trimmed_end_is s r h = sym (kept_end r (trimmed_end r h.1.0 h.1.1 h.1.2)) ∙ cuts_end_kept s h.0.0 r h.0.1
