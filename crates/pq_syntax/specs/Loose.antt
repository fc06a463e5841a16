-- What braces show of a text, whatever error it has: packages, imports, messages, enums, services
-- and groups (Protocol Buffers language specifications of proto2, proto3 and editions, "Proto
-- file", "Import Statement", "Package", "Message definition", "Enum definition", "Service
-- definition" and "Group"). Fields, values and methods are not among them.
--
-- The tokens of the text go on after a lexical error. A statement begins at some of them. Bodies
-- nest as their braces do, and a keyword of the file's level at the start of a line ends all of
-- them.
use Rattle.std.specs.Prelude.{◌≡◌, ℕ, zero, suc, ◌+◌, ◌-◌, ◌==◌, Bool, true, false, not, ◌&&◌, ◌||◌, cond, nat_lt, List, [], ◌∷◌, ◌++◌, drop, take, map, codes, Option, Some, None, unwrap_or, is_some}
use Rattle.std.specs.Str.Lossy.{utf8_lossy}
use Rattle.pq_lex.specs.Ascii.{line_feed, tab}
use Rattle.pq_lex.specs.Classes.{byte}
use Rattle.pq_lex.specs.Tokens.{Lexes, span}
use Rattle.pq_lex.specs.declared.token.Code.{Code}
use Rattle.pq_lex.specs.declared.token.Code.TheVariants.{UnclosedComment}
use Rattle.pq_lex.specs.declared.token.Span.{Span}
use Rattle.pq_lex.specs.declared.token.Token.{Token}
use Rattle.pq_syntax.specs.Parts.{joined, space, span_across, values}
use Rattle.pq_syntax.specs.Words.{Word, words, is_identifier, accepts, accepts_class}
use Rattle.pq_syntax.specs.Words.Class.{Keyword, OneOf, Valued}
use Rattle.pq_syntax.specs.declared.loose.sights.Brace.{Brace}
use Rattle.pq_syntax.specs.declared.loose.sights.Brace.TheVariants as brace
use Rattle.pq_syntax.specs.declared.loose.open.Holder.{Holder}
use Rattle.pq_syntax.specs.declared.loose.sights.Sight.{Sight}
use Rattle.pq_syntax.specs.declared.loose.sights.Sight.TheVariants.{Leaves, Closes, Package, Import, Message, Enum, Service, Block, Group, Opens, Passes}
use Rattle.pq_syntax.specs.declared.parts.Name.{Name}
use Rattle.pq_syntax.specs.declared.parts.Strings.{Strings}
use Rattle.pq_syntax.specs.declared.terminal.Terminal.TheVariants.{SyntaxWord, ImportWord, PackageWord, MessageWord, EnumWord, ServiceWord, OneofWord, ExtendWord, AnyText, Semicolon, Equals, Dot, OpenBrace, CloseBrace}
use Rattle.pq_syntax.specs.declared.tree.ImportKind.{ImportKind}
use Rattle.pq_syntax.specs.declared.tree.ImportKind.TheVariants.{Plain, Public, Weak}
use Rattle.pq_syntax.specs.declared.tree.Node.{Node}
use Rattle.pq_syntax.specs.declared.tree.Statement.{Statement}
use Rattle.pq_syntax.specs.declared.tree.Statement.TheVariants as statement

-- ---- the tokens of any text

-- `moved n t` is the token `t` with its span `n` bytes later.
abbrev pub moved : ℕ → Token → Token
moved n t = record { kind = t.kind; span = span (n + t.span.start) (n + t.span.end) }

-- `before_line_feed bytes` is the number of `bytes` before their first LF, or of all.
unfoldable pub before_line_feed : List ℕ → ℕ
before_line_feed [] = 0
before_line_feed (b ∷ bs) = cond (b == line_feed) 0 (suc (before_line_feed bs))

-- `line_feed_from text i` is the offset of the first LF of `text` from offset `i` on, or the end of
-- `text`.
abbrev pub line_feed_from : List ℕ → ℕ → ℕ
line_feed_from text i = i + before_line_feed (drop i text)

-- `LexesOn text i tokens` is: from offset `i` on, the tokens of `text` are `tokens`, whatever
-- lexical errors stand among them. After an error the rest of its line is passed over, and lexing
-- goes on at the LF that ends it. After a comment that is not closed nothing follows.
pub data LexesOn (text : List ℕ) : ℕ → List Token → Type 0 where
  to_end : {i : ℕ} {ts : List Token} (tokens : List Token) → Lexes 0 (drop i text) tokens None → ts ≡ map (moved i) tokens → LexesOn text i ts
  unclosed : {i : ℕ} {ts : List Token} (tokens : List Token) (at : Span) → Lexes 0 (drop i text) tokens (Some (at, UnclosedComment)) → ts ≡ map (moved i) tokens → LexesOn text i ts
  goes_on : {i : ℕ} {ts : List Token} (tokens : List Token) (at : Span) (code : Code) (others : List Token) → Lexes 0 (drop i text) tokens (Some (at, code)) → (code ≡ UnclosedComment → ⊥) → LexesOn text (line_feed_from text (i + at.start + 1)) others → ts ≡ map (moved i) tokens ++ others → LexesOn text i ts

-- ---- where statements begin

-- `other_words` is the keywords of the statements of a file but for `syntax`.
abbrev pub other_words : List (List ℕ)
other_words =
    codes "import" ∷ codes "package" ∷ codes "option" ∷ codes "message" ∷ codes "enum" ∷ codes "service" ∷ codes "extend" ∷ []

-- `starts_line text i` is whether offset `i` is the start of `text` or follows an LF.
abbrev pub starts_line : List ℕ → ℕ → Bool
starts_line text i = i == 0 || byte text (i - 1) == line_feed

-- `is_anew text w` is whether the word `w` of `text` is anew: a keyword of a statement of a file,
-- at the start of a line.
unfoldable pub is_anew : List ℕ → Word → Bool
is_anew text w = accepts_class (OneOf (codes "syntax" ∷ other_words)) w && starts_line text w.span.start

-- `is_blank b` is whether the byte `b` is a space or a tab.
abbrev pub is_blank : ℕ → Bool
is_blank b = b == space || b == tab

-- `follows_blank text i` is whether offset `i` of `text` follows a space or a tab.
abbrev pub follows_blank : List ℕ → ℕ → Bool
follows_blank text i = not (i == 0) && is_blank (byte text (i - 1))

-- `is_first_on_line text i` is whether only blanks are before offset `i` of `text` in its line.
unfoldable pub is_first_on_line : List ℕ → ℕ → Bool
is_first_on_line text zero = true
is_first_on_line text (suc i) = byte text i == line_feed || (is_blank (byte text i) && is_first_on_line text i)

-- `can_begin text w` is whether a statement can begin at the word `w` of `text`, whatever is before
-- it: the word is anew, or the first of its line.
unfoldable pub can_begin : List ℕ → Word → Bool
can_begin text w = is_anew text w || is_first_on_line text w.span.start

-- `is_name text w` is whether the word `w` of `text` is a name within a statement: an identifier,
-- but no keyword of a statement of a file that is the first of its line. So no statement reaches
-- past a word that is anew, and no name takes the keyword of the next line's statement.
unfoldable pub is_name : List ℕ → Word → Bool
is_name text w = is_identifier w.kind && not (accepts_class (OneOf (codes "syntax" ∷ other_words)) w && is_first_on_line text w.span.start)

-- `is_first p ws` is whether there is a first of `ws`, and `p` holds of it.
abbrev pub is_first : (Word → Bool) → List Word → Bool
is_first p [] = false
is_first p (w ∷ ws) = p w

-- `is_at p n ws` is whether `ws` has a word of the number `n`, counted from 0, and `p` holds of it.
unfoldable pub is_at : (Word → Bool) → ℕ → List Word → Bool
is_at p n ws = is_first p (drop n ws)

-- ---- the statements

-- `dotted text ws` is the number of the first of `ws` that are parts of a dotted name after its
-- first: a dot and a name, any number of times.
unfoldable pub dotted : List ℕ → List Word → ℕ
dotted text (d ∷ n ∷ ws) = cond (accepts Dot d && is_name text n) (suc (suc (dotted text ws))) 0
dotted text _ = 0

-- `texts ws` is the number of strings that `ws` begin with.
unfoldable pub texts : List Word → ℕ
texts [] = 0
texts (w ∷ ws) = cond (accepts AnyText w) (suc (texts ws)) 0

-- `ends_head text w` is whether a group's head ends before the word `w`: a brace, a semicolon or a
-- word that is anew.
abbrev pub ends_head : List ℕ → Word → Bool
ends_head text w = accepts OpenBrace w || accepts CloseBrace w || accepts Semicolon w || is_anew text w

-- `before_body text ws` is the number of the first of `ws` before one before which a group's head
-- ends.
unfoldable pub before_body : List ℕ → List Word → ℕ
before_body text [] = 0
before_body text (w ∷ ws) = cond (ends_head text w) 0 (suc (before_body text ws))

-- `package_at text ws` is the package that `ws` begin with: "package" ident {"." ident}
unfoldable pub package_at : List ℕ → List Word → Option Sight
package_at text ws =
    cond (is_at (accepts PackageWord) 0 ws && is_at (is_name text) 1 ws) (Some (Package (2 + dotted text (drop 2 ws)))) None

-- `is_word k w` is whether `w` is the name `k`.
abbrev pub is_word : List ℕ → Word → Bool
is_word k w = accepts_class (Keyword k) w

-- `kind_at ws` is the kind of the import `ws`: "import" ["public" | "weak"]
unfoldable pub kind_at : List Word → ImportKind
kind_at ws = cond (is_at (is_word (codes "public")) 1 ws) Public (cond (is_at (is_word (codes "weak")) 1 ws) Weak Plain)

-- `before_texts kind` is the number of words before the strings of an import of the kind `kind`.
abbrev pub before_texts : ImportKind → ℕ
before_texts Plain = 1
before_texts Public = 2
before_texts Weak = 2

-- `texts_at k ws` is the import `ws` whose strings are from number `k` on, if there are some.
unfoldable pub texts_at : ℕ → List Word → Option Sight
texts_at k ws = cond (is_at (accepts AnyText) k ws) (Some (Import k (k + texts (drop k ws)))) None

-- `import_at ws` is the import that `ws` begin with: "import" ["public" | "weak"] string {string}
unfoldable pub import_at : List Word → Option Sight
import_at ws = cond (is_at (accepts ImportWord) 0 ws) (texts_at (before_texts (kind_at ws)) ws) None

-- `keyword_at ws` is the statement with a name and a body whose keyword is the first of `ws`.
unfoldable pub keyword_at : List Word → Option Sight
keyword_at ws =
    cond (is_at (accepts MessageWord) 0 ws) (Some Message)
    (cond (is_at (accepts EnumWord) 0 ws) (Some Enum)
    (cond (is_at (accepts ServiceWord) 0 ws) (Some Service)
    (cond (is_at (accepts OneofWord) 0 ws) (Some (Block 3)) None)))

-- `body_at text ws` is the statement that `ws` begin with:
-- ("message" | "enum" | "service" | "oneof") ident "{"
unfoldable pub body_at : List ℕ → List Word → Option Sight
body_at text ws = cond (is_at (is_name text) 1 ws && is_at (accepts OpenBrace) 2 ws) (keyword_at ws) None

-- `extended_at text k ws` is the extend block `ws` whose type has its first name at number `k`.
unfoldable pub extended_at : List ℕ → ℕ → List Word → Option Sight
extended_at text k ws = let n = suc k + dotted text (drop (suc k) ws) in
    cond (is_at (is_name text) k ws && is_at (accepts OpenBrace) n ws) (Some (Block (suc n))) None

-- `extended_name ws` is the number of the first name of the type of the extend block `ws`.
abbrev pub extended_name : List Word → ℕ
extended_name ws = cond (is_at (accepts Dot) 1 ws) 2 1

-- `extend_at text ws` is the extend block that `ws` begin with: "extend" ["."] ident {"." ident}
-- "{"
unfoldable pub extend_at : List ℕ → List Word → Option Sight
extend_at text ws = cond (is_at (accepts ExtendWord) 0 ws) (extended_at text (extended_name ws) ws) None

-- `headed n opens` is the group whose `n` words before its `{` are followed by that if it `opens`.
abbrev pub headed : ℕ → Bool → Sight
headed n opens = Group (cond opens (suc n) n) opens

-- `group_at text ws` is the group that `ws` begin with: "group" ident "=". The next brace is that
-- of its body, if no semicolon, no `}` and no word that is anew is before it.
unfoldable pub group_at : List ℕ → List Word → Option Sight
group_at text ws = let n = 3 + before_body text (drop 3 ws) in
    cond (is_at (is_word (codes "group")) 0 ws && is_at (is_name text) 1 ws && is_at (accepts Equals) 2 ws)
    (Some (headed n (is_at (accepts OpenBrace) n ws))) None

-- ---- what contains a statement

-- `is_inside h` is whether a brace is open.
abbrev pub is_inside : Holder → Bool
is_inside h = is_some h.brace

-- `most_messages` is the number of messages that may contain a statement.
abbrev pub most_messages : ℕ
most_messages = 63

-- `holds_statements b` is whether statements stand where the innermost brace is `b`: at the file's
-- level and in a message.
abbrev pub holds_statements : Option Brace → Bool
holds_statements None = true
holds_statements (Some brace.Message) = true
holds_statements (Some _) = false

-- `holds_groups b` is whether groups stand where the innermost brace is `b`: in a message, a oneof
-- and an extend block.
abbrev pub holds_groups : Option Brace → Bool
holds_groups None = false
holds_groups (Some brace.Message) = true
holds_groups (Some brace.Block) = true
holds_groups (Some _) = false

-- `first_of a b` is `a`, or `b` if that is `None`.
abbrev pub first_of : Option Sight → Option Sight → Option Sight
first_of (Some s) b = Some s
first_of None b = b

-- `file_statement text h ws` is the statement without a body that `ws` begin with, at the file's
-- level.
unfoldable pub file_statement : List ℕ → Holder → List Word → Option Sight
file_statement text h ws = cond (is_inside h) None (first_of (package_at text ws) (import_at ws))

-- `held_statement text h ws` is the statement with a body that `ws` begin with, where `h` holds
-- such.
unfoldable pub held_statement : List ℕ → Holder → List Word → Option Sight
held_statement text h ws = cond (holds_statements h.brace && not (nat_lt most_messages h.depth)) (first_of (body_at text ws) (extend_at text ws)) None

-- `held_group text h ws` is the group that `ws` begin with, where `h` holds such.
unfoldable pub held_group : List ℕ → Holder → List Word → Option Sight
held_group text h ws = cond (holds_groups h.brace && not (nat_lt most_messages h.depth)) (group_at text ws) None

-- `begun_at text h begins ws` is the statement that `ws` begin with, in `h`, where one `begins`,
-- but for a group.
unfoldable pub begun_at : List ℕ → Holder → Bool → List Word → Option Sight
begun_at text h begins ws = cond begins (first_of (file_statement text h ws) (held_statement text h ws)) None

-- `statement_at text h begins ws` is the statement that `ws` begin with, in `h`. A group can stand
-- after a label; any other statement stands where one `begins`.
unfoldable pub statement_at : List ℕ → Holder → Bool → List Word → Option Sight
statement_at text h begins ws = first_of (begun_at text h begins ws) (held_group text h ws)

-- `other_at ws` is the first of `ws`, which begins no statement. After `;` and after a brace one
-- can begin.
unfoldable pub other_at : List Word → Sight
other_at ws = cond (is_at (accepts OpenBrace) 0 ws) Opens (Passes (is_at (accepts Semicolon) 0 ws || is_at (accepts CloseBrace) 0 ws))

-- `sight text h begins ws` is what stands at the first of `ws`, in `h`, where a statement `begins`
-- or not. One can begin at the first word of a line too.
unfoldable pub sight : List ℕ → Holder → Bool → List Word → Sight
sight text h begins ws =
    cond (is_inside h && is_at (is_anew text) 0 ws) Leaves
    (cond (is_inside h && is_at (accepts CloseBrace) 0 ws) Closes
    (unwrap_or (statement_at text h (begins || is_at (can_begin text) 0 ws) ws) (other_at ws)))

-- ---- what a sight is

-- `name_of_words ws` is the name that the words `ws` make.
unfoldable pub name_of_words : List Word → Name
name_of_words ws = record { text = utf8_lossy (joined ws); span = span_across ws }

-- `strings_of_words ws` is the joined value of the strings `ws`.
unfoldable pub strings_of_words : List Word → Strings
strings_of_words ws = record { value = values ws; span = span_across ws }

-- `showing depth ws s` is the node of the statement `s` that spans the words `ws`.
abbrev pub showing : ℕ → List Word → Statement → Node
showing depth ws s = record { depth = depth; span = span_across ws; statement = s }

-- `shown depth ws s` is the statements that the sight `s` at the first of `ws` shows: one or none.
-- A statement spans its first word to its name, an import to its last string.
abbrev pub shown : ℕ → List Word → Sight → List Node
shown depth ws (Package n) = showing depth (take n ws) (statement.Package (name_of_words (drop 1 (take n ws)))) ∷ []
shown depth ws (Import k n) = showing depth (take n ws) (statement.Import (kind_at ws) (strings_of_words (drop k (take n ws)))) ∷ []
shown depth ws Message = showing depth (take 2 ws) (statement.Message (name_of_words (drop 1 (take 2 ws)))) ∷ []
shown depth ws Enum = showing depth (take 2 ws) (statement.Enum (name_of_words (drop 1 (take 2 ws)))) ∷ []
shown depth ws Service = showing depth (take 2 ws) (statement.Service (name_of_words (drop 1 (take 2 ws)))) ∷ []
shown depth ws (Group n opens) = showing depth (take 2 ws) (statement.Message (name_of_words (drop 1 (take 2 ws)))) ∷ []
shown depth ws _ = []

-- `taken s` is the number of words of the sight `s`.
abbrev pub taken : Sight → ℕ
taken Leaves = 0
taken Closes = 1
taken (Package n) = n
taken (Import k n) = n
taken Message = 3
taken Enum = 3
taken Service = 3
taken (Block n) = n
taken (Group n opens) = n
taken Opens = 1
taken (Passes begins) = 1

-- `opened s` is what the brace is of that the sight `s` opens, or `None` if it opens none.
abbrev pub opened : Sight → Option Brace
opened Message = Some brace.Message
opened Enum = Some brace.Enum
opened Service = Some brace.Service
opened (Block n) = Some brace.Block
opened (Group n opens) = cond opens (Some brace.Message) None
opened Opens = Some brace.Other
opened _ = None

-- `begins_after s` is whether a statement can begin after the sight `s`: after `;` and after a
-- brace.
abbrev pub begins_after : Sight → Bool
begins_after (Package n) = false
begins_after (Import k n) = false
begins_after (Group n opens) = opens
begins_after (Passes begins) = begins
begins_after _ = true

-- `goes_on_after s` is whether the body goes on after the sight `s`.
abbrev pub goes_on_after : Sight → Bool
goes_on_after Leaves = false
goes_on_after Closes = false
goes_on_after _ = true

-- `within depth b` is what holds a statement in a brace of `b`, which `depth` statements contain. A
-- oneof, an extend block and another brace contain no statement: their own holder does.
abbrev pub within : ℕ → Brace → Holder
within depth brace.Message = record { brace = Some brace.Message; depth = suc depth }
within depth brace.Enum = record { brace = Some brace.Enum; depth = suc depth }
within depth brace.Service = record { brace = Some brace.Service; depth = suc depth }
within depth brace.Block = record { brace = Some brace.Block; depth = depth }
within depth brace.Other = record { brace = Some brace.Other; depth = depth }

-- ---- bodies

-- `Shows text h begins ws nodes end` is: the rest of a body, in which `h` holds the statements, are
-- the words `ws` of `text` up to those of `end`, and show the statements `nodes`, those in its
-- inner bodies included. A body ends after its `}`, before a word that is anew, or with the text;
-- that of the file ends with the text alone.
pub data Shows (text : List ℕ) : Holder → Bool → List Word → List Node → List Word → Type 0 where
  ends : {h : Holder} {begins : Bool} → Shows text h begins [] [] []
  leaves : {h : Holder} {begins : Bool} {w : Word} {ws : List Word} → sight text h begins (w ∷ ws) ≡ Leaves → Shows text h begins (w ∷ ws) [] (w ∷ ws)
  closes : {h : Holder} {begins : Bool} {w : Word} {ws : List Word} → sight text h begins (w ∷ ws) ≡ Closes → Shows text h begins (w ∷ ws) [] ws
  opens : {h : Holder} {begins : Bool} {w : Word} {ws end : List Word} {nodes : List Node} (s : Sight) (b : Brace) (inner outer : List Node) (left : List Word)
      → sight text h begins (w ∷ ws) ≡ s → opened s ≡ Some b
      → Shows text (within h.depth b) true (drop (taken s) (w ∷ ws)) inner left → Shows text h true left outer end
      → nodes ≡ shown h.depth (w ∷ ws) s ++ (inner ++ outer) → Shows text h begins (w ∷ ws) nodes end
  passes : {h : Holder} {begins : Bool} {w : Word} {ws end : List Word} {nodes : List Node} (s : Sight) (others : List Node)
      → sight text h begins (w ∷ ws) ≡ s → opened s ≡ None → goes_on_after s ≡ true
      → Shows text h (begins_after s) (drop (taken s) (w ∷ ws)) others end
      → nodes ≡ shown h.depth (w ∷ ws) s ++ others → Shows text h begins (w ∷ ws) nodes end

-- `at_file_level` is what holds the statements of a file.
abbrev pub at_file_level : Holder
at_file_level = record { brace = None; depth = 0 }

-- `IsShown text nodes` is: `nodes` is what braces show of `text`.
pub record IsShown (text : List ℕ) (nodes : List Node) : Type 0 where
  pub tokens : List Token
  pub lexes : LexesOn text 0 tokens
  pub shows : Shows text at_file_level true (words text tokens) nodes []

-- ---- other versions

-- `is_versioned ws` is whether `ws` begin with "edition" and a string, or with "syntax" and a
-- string of the value proto2, after `=`.
unfoldable pub is_versioned : List Word → Bool
is_versioned ws =
    is_at (is_word (codes "edition")) 0 ws || (is_at (accepts SyntaxWord) 0 ws && is_at (accepts_class (Valued (codes "proto2"))) 2 ws)

-- `is_other ws` is whether a text whose tokens begin with the words `ws` is of another version than
-- proto3: it says so, or begins with another statement of a file.
unfoldable pub is_other : List Word → Bool
is_other ws =
    is_at (accepts_class (OneOf other_words)) 0 ws
    || (is_at (accepts Equals) 1 ws && is_at (accepts AnyText) 2 ws && is_versioned ws)

-- `IsOtherVersion text b` is: `b` is whether `text` is of another version, by its tokens up to its
-- first lexical error.
pub record IsOtherVersion (text : List ℕ) (b : Bool) : Type 0 where
  pub tokens : List Token
  pub fault : Option (Span × Code)
  pub lexes : Lexes 0 text tokens fault
  pub is : b ≡ is_other (words text tokens)
