-- Auxiliary: numbers that are made of texts, by which unequal texts are mostly told apart.
use Rattle.std.specs.Prelude.{ℕ, zero, suc, ◌+◌, ◌-◌, ◌*◌, ◌/◌, ◌%◌, ◌^◌, List, [], ◌∷◌, length, get_or}
use Rattle.std.specs.Int.{from_le_bytes, w64}

-- `coded c n` is the code `c` with the number `n` after it
abbrev pub coded : ℕ → ℕ → ℕ
coded c n = ((c * 11400714819323198485) % 2 ^ 64 + n) % 2 ^ 64

-- `word_at bytes at` is the number that eight of `bytes` write from `at` on, the lowest first
abbrev pub word_at : List ℕ → ℕ → ℕ
word_at bytes at =
    from_le_bytes w64
    (get_or bytes at 0 ∷ get_or bytes (at + 1) 0 ∷ get_or bytes (at + 2) 0 ∷ get_or bytes (at + 3) 0
    ∷ get_or bytes (at + 4) 0 ∷ get_or bytes (at + 5) 0 ∷ get_or bytes (at + 6) 0 ∷ get_or bytes (at + 7) 0 ∷ [])

-- `words_code bytes n` is the code of the number of `bytes` with their first `n` words after it
unfoldable pub words_code : List ℕ → ℕ → ℕ
words_code bytes zero = length bytes
words_code bytes (suc n) = coded (words_code bytes n) (word_at bytes (8 * n))

-- `bytes_code bytes c at n` is the code `c` with `n` of `bytes` after it, from `at` on
unfoldable pub bytes_code : List ℕ → ℕ → ℕ → ℕ → ℕ
bytes_code bytes c at zero = c
bytes_code bytes c at (suc n) = coded (bytes_code bytes c at n) (get_or bytes (at + n) 0)

-- `text_code bytes` is the code of the text of these bytes: of their number, then of their words, and
-- then of the bytes that make no word
unfoldable pub text_code : List ℕ → ℕ
text_code bytes =
    bytes_code bytes (words_code bytes (length bytes / 8)) (8 * (length bytes / 8)) (length bytes - 8 * (length bytes / 8))
