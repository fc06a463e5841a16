-- The file that a URI names below the root of a session, and the URI that is printed of a file (RFC
-- 3986, sections 2.1 and 2.3; RFC 8089, section 2; LSP 3.17, "URI"). Other texts write the same URI, and
-- `plain_uri` is the one form of them.
use Rattle.std.specs.Prelude.{ℕ, Bool, not, ◌==◌, ◌||◌, List, [], ◌∷◌, ◌++◌, length, drop, map, reverse, codes, if◌then◌else◌, Option, Some, None, option_and_then, option_map, unwrap_or, is_some, nat_eq}
use Rattle.std.specs.Char.{is_ascii_alphanumeric, to_ascii_lowercase}
use Rattle.std.specs.List.{starts_with, flat_map}
use Rattle.std.specs.Str.{is_utf8, byte, bytes_eq}
use Rattle.percent_encoding.specs.Percent.{percent_decode, percent_encode_byte}

-- `slash` is the byte between the parts of a path.
abbrev pub slash : ℕ
slash = 47

-- `strip_prefix prefix text` is `text` after `prefix`, if `text` begins with it.
abbrev pub strip_prefix : List ℕ → List ℕ → Option (List ℕ)
strip_prefix prefix text = if starts_with nat_eq text prefix then Some (drop (length prefix) text) else None

-- `is_absolute path` is whether `path` begins with `/`.
abbrev pub is_absolute : List ℕ → Bool
is_absolute path = is_some (strip_prefix (codes "/") path)

-- `absolute path` is `path`, if it begins with `/`.
abbrev pub absolute : List ℕ → Option (List ℕ)
absolute path = if is_absolute path then Some path else None

-- `path_of uri` is the path of `uri`, with its escapes, if `uri` has the scheme `file` and no host.
-- `?` and `#` belong to the path.
abbrev pub path_of : List ℕ → Option (List ℕ)
path_of uri = option_and_then absolute (strip_prefix (codes "file://") uri)

-- `text_of path` is `path` with each escape replaced by its byte, if that is UTF-8.
abbrev pub text_of : List ℕ → Option (List ℕ)
text_of path = if is_utf8 (percent_decode path) then Some (percent_decode path) else None

-- `decoded_path uri` is the path of `uri` without escapes, if `uri` names a path.
abbrev pub decoded_path : List ℕ → Option (List ℕ)
decoded_path uri = option_and_then text_of (path_of uri)

-- `without_slashes path` is `path` from its first byte that is not `/`.
abbrev pub without_slashes : List ℕ → List ℕ
without_slashes [] = []
without_slashes (b ∷ rest) = if b == slash then without_slashes rest else b ∷ rest

-- `without_last_slashes path` is `path` up to its last byte that is not `/`.
abbrev pub without_last_slashes : List ℕ → List ℕ
without_last_slashes path = reverse (without_slashes (reverse path))

-- ---- one form of each URI

-- `colon` is the byte after the scheme of a URI.
abbrev pub colon : ℕ
colon = 58

-- `cut_at b text` is `text` before its first byte `b`, and after it, if it has that byte.
abbrev pub cut_at : ℕ → List ℕ → Option (List ℕ × List ℕ)
cut_at b [] = None
cut_at b (x ∷ rest) = if x == b then Some ([], rest) else option_map (λ parts. (x ∷ parts.0, parts.1)) (cut_at b rest)

-- `scheme_of uri` is the scheme of `uri`: the text before its first `:`, and empty without one (RFC 3986,
-- section 3.1).
abbrev pub scheme_of : List ℕ → List ℕ
scheme_of uri = unwrap_or (option_map (λ parts. parts.0) (cut_at colon uri)) []

-- `is_same_word text word` is whether `text` is `word` but for the case of ASCII letters.
abbrev pub is_same_word : List ℕ → List ℕ → Bool
is_same_word text word = bytes_eq (map to_ascii_lowercase text) (map to_ascii_lowercase word)

-- `is_local host` is whether `host` names this machine: it is empty, or `localhost`.
abbrev pub is_local : List ℕ → Bool
is_local host = (length host == 0) || is_same_word host (codes "localhost")

-- `rest_after_host text` is the path after its first slash, where `text` is a host of this machine and
-- a path.
abbrev pub rest_after_host : List ℕ → Option (List ℕ)
rest_after_host text = option_and_then (λ parts. if is_local parts.0 then Some parts.1 else None) (cut_at slash text)

-- `rest_by text after` is the path after its first slash, where `text` is what follows the scheme, and
-- `after` what follows `//` in it, if it begins so: a host and the path.
abbrev pub rest_by : List ℕ → Option (List ℕ) → Option (List ℕ)
rest_by text None = strip_prefix (codes "/") text
rest_by text (Some after) = rest_after_host after

-- `local_rest text` is the path after its first slash, where `text` is what follows the scheme: a host
-- after `//` and the path, or the path alone.
abbrev pub local_rest : List ℕ → Option (List ℕ)
local_rest text = rest_by text (strip_prefix (codes "//") text)

-- `plain_rest uri` is the path of `uri` after its first slash, if `uri` has the scheme `file`, in letters
-- of any case, and names a file of this machine.
abbrev pub plain_rest : List ℕ → Option (List ℕ)
plain_rest uri = option_and_then (λ parts. if is_same_word parts.0 (codes "file") then local_rest parts.1 else None) (cut_at colon uri)

-- `plain_by uri rest` is the URI of the path that is `/` and `rest`, and `uri` without one.
abbrev pub plain_by : List ℕ → Option (List ℕ) → List ℕ
plain_by uri None = uri
plain_by uri (Some rest) = codes "file:///" ++ rest

-- `plain_uri uri` is the form of `uri` that is read: `file://` and its path, if `uri` names a file of
-- this machine (RFC 8089, sections 2 and 3, appendix B). Any other text is itself. The law
-- `plain_uris_stay` says that the form of a form is itself.
unfoldable pub plain_uri : List ℕ → List ℕ
plain_uri uri = plain_by uri (plain_rest uri)

-- ---- the root

-- `root_of uri` is the root that the member `rootUri` gives: its path without slashes at its end.
-- The root is empty if there is no `uri`, or if it names no path.
abbrev pub root_of : Option (List ℕ) → List ℕ
root_of uri = unwrap_or (option_map without_last_slashes (option_and_then decoded_path uri)) []

-- ---- reading

-- `below root path` is what follows `root` and `/` in `path`, if `path` begins with them.
abbrev pub below : List ℕ → List ℕ → Option (List ℕ)
below root path = option_and_then (strip_prefix (codes "/")) (strip_prefix root path)

-- `name_of text` is `text`, if it is not empty.
abbrev pub name_of : List ℕ → Option (List ℕ)
name_of [] = None
name_of (b ∷ rest) = Some (b ∷ rest)

-- `file_below path rest` is the name of the file at `path`: the `rest` below the root, or `path`
-- itself if it is not there.
abbrev pub file_below : List ℕ → Option (List ℕ) → Option (List ℕ)
file_below path None = Some path
file_below path (Some rest) = name_of (without_slashes rest)

-- `file_at root path` is the name of the file at `path`.
abbrev pub file_at : List ℕ → List ℕ → Option (List ℕ)
file_at root path = file_below path (below root path)

-- `name_below root path` is the name of the file at `path`, if `path` is below `root`.
abbrev pub name_below : List ℕ → List ℕ → Option (List ℕ)
name_below root path = option_and_then (λ rest. name_of (without_slashes rest)) (below root path)

-- `file_of root uri` is the name of the file of `uri`, if it names one.
unfoldable pub file_of : List ℕ → List ℕ → Option (List ℕ)
file_of root uri = option_and_then (file_at root) (decoded_path uri)

-- ---- printing

-- `is_kept b` is whether the byte `b` of a path is printed as itself: an ASCII letter or digit, or
-- one of `-`, `.`, `_`, `~` and `/`.
abbrev pub is_kept : ℕ → Bool
is_kept b = is_ascii_alphanumeric b || (b == byte "-") || (b == byte ".") || (b == byte "_") || (b == byte "~") || (b == slash)

-- `encoded path` is `path` with an escape of capital hexadecimal digits for each other byte.
unfoldable pub encoded : List ℕ → List ℕ
encoded path = flat_map (λ b. if is_kept b then b ∷ [] else percent_encode_byte b) path

-- `path_in root name` is the path of the file `name`: `name` itself if it begins with `/`, else the
-- one below `root`.
abbrev pub path_in : List ℕ → List ℕ → List ℕ
path_in root name = if is_absolute name then name else root ++ slash ∷ name

-- `uri_of root name` is the URI that is printed of the file `name`.
unfoldable pub uri_of : List ℕ → List ℕ → List ℕ
uri_of root name = codes "file://" ++ encoded (path_in root name)

-- `is_file_name root name` is whether some URI names the file `name`: a path that is not below
-- `root`, or a text that is not empty and does not begin with `/`.
abbrev pub is_file_name : List ℕ → List ℕ → Bool
is_file_name root name = if is_absolute name then not (is_some (below root name)) else is_some (name_of name)
