-- Which text each file has for one editor: that of the open document, else that on the disk.
--
-- Files are found below the root folders, in their order, as with the option `-I` of `protoc`. The
-- path of a file is absolute. Its names are what is left of the path below the roots. A name begins
-- with no slash; a text that does is a path.
use Rattle.std.specs.Prelude.{ℕ, suc, Bool, false, cond, not, ◌&&◌, ◌==◌, bytes_eq, is_some, unwrap_or, List, [], ◌∷◌, ◌++◌, filter_map, length, drop, slice_get, Option, Some, None}
use Rattle.std.specs.List.{list_any}

-- `Texts` is the text of the file at each path, or `None` where there is none
abbrev pub Texts : Type 0
Texts = List ℕ → Option (List ℕ)

-- A view: the paths of the root folders in their order, without a slash at the end (that of the file
-- system is empty); what is known of the disk; and the documents that are open.
pub record View : Type 0 where
  pub roots : List (List ℕ)
  pub disk : Texts
  pub documents : Texts

-- `slash` is the byte `/`
abbrev pub slash : ℕ
slash = 47

-- `or_else a b` is `a`, or `b` if that is `None`
abbrev pub or_else : Option (List ℕ) → Option (List ℕ) → Option (List ℕ)
or_else (Some t) b = Some t
or_else None b = b

-- `text_at v path` is the text of the file at `path`: that of the document, else that on the disk
abbrev pub text_at : View → List ℕ → Option (List ℕ)
text_at v path = or_else (v.documents path) (v.disk path)

-- ---- names and paths

-- `is_path name` is whether `name` begins with a slash, as paths do
abbrev pub is_path : List ℕ → Bool
is_path [] = false
is_path (b ∷ bs) = b == slash

-- `below root name` is the path of the file `name` below the folder `root`
abbrev pub below : List ℕ → List ℕ → List ℕ
below root name = root ++ slash ∷ name

-- `name_below path root` is the name of the file at `path` below the folder `root`, if it is there
unfoldable pub name_below : List ℕ → List ℕ → Option (List ℕ)
name_below path root = let name = drop (suc (length root)) path in
    cond (bytes_eq path (below root name) && not (is_path name)) (Some name) None

-- `names_of v path` is the names of the file at `path`, in the order of the roots
abbrev pub names_of : View → List ℕ → List (List ℕ)
names_of v path = filter_map (name_below path) v.roots

-- `place_in v roots name` is the path of the file `name`: below the first of `roots` below which
-- there is one
unfoldable pub place_in : View → List (List ℕ) → List ℕ → Option (List ℕ)
place_in v [] name = None
place_in v (root ∷ roots) name = cond (is_some (text_at v (below root name))) (Some (below root name)) (place_in v roots name)

-- `place v name` is the path of the file `name`, if there is one
abbrev pub place : View → List ℕ → Option (List ℕ)
place v name = place_in v v.roots name

-- `paths_before_in v roots name` is the paths of the file `name` below `roots`, up to the first
-- below which there is one, which is left out
unfoldable pub paths_before_in : View → List (List ℕ) → List ℕ → List (List ℕ)
paths_before_in v [] name = []
paths_before_in v (root ∷ roots) name = cond (is_some (text_at v (below root name))) [] (below root name ∷ paths_before_in v roots name)

-- `paths_before v name` is the paths at which the file `name` would be found before its place, or
-- in place of it where it has none. A path is found nowhere else.
abbrev pub paths_before : View → List ℕ → List (List ℕ)
paths_before v name = cond (is_path name) [] (paths_before_in v v.roots name)

-- `is_at path place` is whether `place` is `path`
abbrev pub is_at : List ℕ → Option (List ℕ) → Bool
is_at path None = false
is_at path (Some place) = bytes_eq place path

-- `is_placed v path name` is whether `path` is the path of the file `name`
abbrev pub is_placed : View → List ℕ → List ℕ → Bool
is_placed v path name = is_at path (place v name)

-- `is_found v path` is whether the file at `path` is the file of one of its names
abbrev pub is_found : View → List ℕ → Bool
is_found v path = list_any (is_placed v path) (names_of v path)

-- ---- what the compiler is asked about

-- `own_text v path` is the text of the document at `path`, if it is the file of none of its names.
-- The path itself is then its name.
abbrev pub own_text : View → List ℕ → Option (List ℕ)
own_text v path = cond (is_found v path) None (v.documents path)

-- `placed_text v place` is the text at `place`
abbrev pub placed_text : View → Option (List ℕ) → Option (List ℕ)
placed_text v None = None
placed_text v (Some path) = text_at v path

-- `source v name` is the text of the file `name` in the sources, or `None` if it has none
abbrev pub source : View → List ℕ → Option (List ℕ)
source v name = cond (is_path name) (own_text v name) (placed_text v (place v name))

-- `first_placed v path names` is the first of `names` of which `path` is the file
unfoldable pub first_placed : View → List ℕ → List (List ℕ) → Option (List ℕ)
first_placed v path [] = None
first_placed v path (n ∷ ns) = cond (is_placed v path n) (Some n) (first_placed v path ns)

-- `name_of v path` is the name by which the diagnostics of the file at `path` are asked: the first
-- of its names of which it is the file, or its path
abbrev pub name_of : View → List ℕ → List ℕ
name_of v path = unwrap_or (first_placed v path (names_of v path)) path

-- `first_root v` is the first root, and that of the file system if there is none
abbrev pub first_root : View → List ℕ
first_root v = unwrap_or (slice_get v.roots 0) []

-- `path_of v name` is the path that the file `name` has in replies: its place, or where it would be
-- below the first root
abbrev pub path_of : View → List ℕ → List ℕ
path_of v name = cond (is_path name) name (unwrap_or (place v name) (below (first_root v) name))
