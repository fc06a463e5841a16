-- Fields, from the tokens taken.
use Rattle.std.proofs.Common.{◌≡◌, ℕ, true, false, List, ◌++◌, None, Some, refl, ap}
use Rattle.pq_lex.specs.declared.token.Token.{Token}
use Rattle.pq_syntax.specs.Grammar.{dotted, entry_types, labelled, mapped, opt, opts, tail, type', type_from}
use Rattle.pq_syntax.specs.Parts.{entry_of, name_of, number_of, settings_of}
use Rattle.pq_syntax.specs.Tree.{field_nodes, label_of, labelled_nodes, mapped_nodes, tail_of}
use Rattle.pq_syntax.specs.Rule.{Rule, Parse}
use Rattle.pq_syntax.specs.Rule.Rule.{Single, Seq}
use Rattle.pq_syntax.specs.Rule.Parse.{Leaf, Pair, Left, Right}
use Rattle.pq_syntax.specs.Yield.{yield_of}
use Rattle.pq_syntax.specs.aux.Takes.{starts_at}
use Rattle.pq_syntax.specs.Words.{Word, word, words, accepts}
use Rattle.pq_syntax.specs.aux.Steps.{TakesToken, Passes, Reads, Adds, Fails}
use Rattle.pq_syntax.specs.declared.failure.Failure.{Failure}
use Rattle.pq_syntax.specs.declared.parser.fields.Tail.{Tail}
use Rattle.pq_syntax.specs.declared.parts.Name.{Name}
use Rattle.pq_syntax.specs.declared.parts.Number.{Number}
use Rattle.pq_syntax.specs.declared.parts.Setting.{Setting}
use Rattle.pq_syntax.specs.declared.terminal.Terminal.{Terminal}
use Rattle.pq_syntax.specs.declared.terminal.Terminal.TheVariants.{AnyIdentifier, Comma, Equals, Greater, KeyTypeName, LabelWord, Less, MapWord, Semicolon, AnyInteger}
use Rattle.pq_syntax.specs.declared.tree.Label.{Label}
use Rattle.pq_syntax.specs.declared.tree.Node.{Node}
use Rattle.pq_syntax.specs.declared.tree.Statement.TheVariants.{Field, MapField}
use Rattle.pq_syntax.proofs.Bodies.{Pushed}
use Rattle.pq_syntax.proofs.Choices.{by_phrase, chooses_first, chooses_itself, chooses_past, chosen_fails, starts_phrase}
use Rattle.pq_syntax.proofs.Rules.{takes_left, takes_right, takes_then}
use Rattle.pq_syntax.proofs.Steps.{fails_token}

-- what each field ends by
pub tail_reads :
    {text : List ℕ} (brackets : ℕ) {tokens a b d e left : List Token} {equals t semicolon : Token} {name : Name} {number : Number} {options : List Setting}
    → Reads text (Single AnyIdentifier) name_of tokens a name
    → TakesToken text Equals a b equals
    → TakesToken text AnyInteger b d t
    → Reads text (opt (opts brackets)) settings_of d e options
    → TakesToken text Semicolon e left semicolon
    → number ≡ number_of (Leaf (word text t))
    → Reads text (tail brackets) tail_of tokens left (record { name = name; number = number; options = options })
tail_reads {text} brackets {equals = equals} {t = t} {semicolon = semicolon} n q i o s m = record {
  parse = Pair n.parse (Pair (Leaf (word text equals)) (Pair (Leaf (word text t)) (Pair o.parse (Leaf (word text semicolon)))));
  takes = takes_then n.takes (takes_then q.takes (takes_then i.takes (takes_then o.takes s.takes)));
  is = rw (n.is, m, o.is) refl;
}

-- a field without a label, whose node is pushed
pub field_adds :
    {text : List ℕ} (brackets : ℕ) {terminal : Terminal} {tokens rest left : List Token} {kind : Name} {t : Tail} {old new : List Node} (depth : ℕ)
    → Reads text (type_from terminal) name_of tokens rest kind
    → Reads text (tail brackets) tail_of rest left t
    → Pushed text depth tokens left (Field None kind t.name t.number t.options) old new
    → Adds text (Seq (type_from terminal) (tail brackets)) (field_nodes depth) tokens left old new
field_adds {text} brackets depth k t push =
    let all = takes_then k.takes t.takes in
    let whole : Parse Word = Pair k.parse t.parse in
    let n = push text (yield_of whole) all.read in
    record { parse = whole; takes = all; is = rw (n, k.is, t.is) refl }

-- a field with a label
pub labelled_adds :
    {text : List ℕ} (brackets : ℕ) {tokens a b left : List Token} {w : Token} {label : Label} {kind : Name} {t : Tail} {old new : List Node} (depth : ℕ)
    → TakesToken text LabelWord tokens a w
    → Reads text type' name_of a b kind
    → Reads text (tail brackets) tail_of b left t
    → label ≡ label_of (Leaf (word text w))
    → Pushed text depth tokens left (Field (Some label) kind t.name t.number t.options) old new
    → Adds text (labelled brackets) (labelled_nodes depth) tokens left old new
labelled_adds {text} brackets {w = w} depth l k t m push =
    let all = takes_then l.takes (takes_then k.takes t.takes) in
    let whole : Parse Word = Pair (Leaf (word text w)) (Pair k.parse t.parse) in
    let n = push text (yield_of whole) all.read in
    record { parse = whole; takes = all; is = rw (n, m, k.is, t.is) refl }

-- the types of a map's key and value
pub entry_reads : {text : List ℕ} {tokens a b d e left : List Token} {less comma greater : Token} {key value : Name}
    → TakesToken text Less tokens a less
    → Reads text (Single KeyTypeName) name_of a b key
    → TakesToken text Comma b d comma
    → Reads text type' name_of d e value
    → TakesToken text Greater e left greater
    → Reads text entry_types entry_of tokens left (key, value)
entry_reads {text} {less = less} {comma = comma} {greater = greater} l k c v g = record {
  parse = Pair (Leaf (word text less)) (Pair k.parse (Pair (Leaf (word text comma)) (Pair v.parse (Leaf (word text greater)))));
  takes = takes_then l.takes (takes_then k.takes (takes_then c.takes (takes_then v.takes g.takes)));
  is = rw (k.is, v.is) refl;
}

-- what follows the word map: a map field's types, or the rest of a type's name
abbrev map_types : ℕ → Rule Terminal
map_types brackets = Seq entry_types (tail brackets)

abbrev map_name : ℕ → Rule Terminal
map_name brackets = Seq dotted (tail brackets)

abbrev key_and_value : Rule Terminal
key_and_value = Seq (Single KeyTypeName) (Seq (Single Comma) (Seq type' (Single Greater)))

module _ {text : List ℕ} (brackets : ℕ) {tokens rest : List Token} {w : Token} where
  -- a map field, whose node is pushed
  pub map_adds : {a left : List Token} {key value : Name} {t : Tail} {old new : List Node} (depth : ℕ)
      → TakesToken text MapWord tokens rest w
      → starts_at accepts (Single Less) (words text rest) ≡ true
      → Reads text entry_types entry_of rest a (key, value)
      → Reads text (tail brackets) tail_of a left t
      → Pushed text depth tokens left (MapField key value t.name t.number t.options) old new
      → Adds text (mapped brackets) (mapped_nodes depth) tokens left old new
  map_adds {key = key} {value = value} depth m h e t push =
      let in_first = starts_phrase text Less key_and_value (tail brackets) rest true h in
      let all = takes_then m.takes (takes_left {b = map_name brackets} in_first (takes_then e.takes t.takes)) in
      let whole : Parse Word = Pair (Leaf (word text w)) (Left (Pair e.parse t.parse)) in
      let n = push text (yield_of whole) all.read in
      let k : key ≡ (entry_of e.parse).0 = ap (λ (x : Name × Name). x.0) e.is in
      let v : value ≡ (entry_of e.parse).1 = ap (λ (x : Name × Name). x.1) e.is in
      record { parse = whole; takes = all; is = rw (n, k, v, t.is) refl }

  -- a field whose type begins with the name map
  pub named_map_adds : {a left : List Token} {kind : Name} {t : Tail} {old new : List Node} (depth : ℕ)
      → TakesToken text MapWord tokens rest w
      → starts_at accepts (Single Less) (words text rest) ≡ false
      → Passes text dotted rest a
      → ((p : Parse Word) → words text tokens ≡ yield_of p ++ words text a → kind ≡ name_of p)
      → Reads text (tail brackets) tail_of a left t
      → Pushed text depth tokens left (Field None kind t.name t.number t.options) old new
      → Adds text (mapped brackets) (mapped_nodes depth) tokens left old new
  named_map_adds depth m h d name t push =
      let in_first = starts_phrase text Less key_and_value (tail brackets) rest false h in
      let all = takes_then m.takes (takes_right {a = map_types brackets} in_first refl (takes_then d.takes t.takes)) in
      let named = takes_then m.takes d.takes in
      let whole : Parse Word = Pair (Leaf (word text w)) (Right (Pair d.parse t.parse)) in
      let n = push text (yield_of whole) all.read in
      let k = name (Pair (Leaf (word text w)) d.parse) named.read in
      record { parse = whole; takes = all; is = rw (n, k, t.is) refl }

  -- an error after the word map, where a map field's types begin, and where they do not
  pub map_fails : {e : Failure}
      → TakesToken text MapWord tokens rest w
      → starts_at accepts (Single Less) (words text rest) ≡ true
      → Fails text (map_types brackets) rest e
      → Fails text (mapped brackets) tokens e
  map_fails m h f = fails_token m (chosen_fails (chooses_first by_phrase h) f)

  pub named_map_fails : {e : Failure}
      → TakesToken text MapWord tokens rest w
      → starts_at accepts (Single Less) (words text rest) ≡ false
      → Fails text (map_name brackets) rest e
      → Fails text (mapped brackets) tokens e
  named_map_fails m h f = fails_token m (chosen_fails (chooses_past by_phrase h chooses_itself) f)
