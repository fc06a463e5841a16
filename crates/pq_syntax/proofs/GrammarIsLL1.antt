-- A single token of look-ahead decides in the grammar, however deep brackets and messages nest, and
-- each terminal accepts some word.
use Rattle.std.proofs.Common.{◌≡◌, ℕ, zero, suc, true, false, List, [], ◌∷◌, refl, ap, codes}
use Rattle.pq_lex.specs.declared.token.Kind.{Kind}
use Rattle.pq_lex.specs.declared.token.Kind.TheVariants.{Identifier, Integer, Float, Text, Symbol}
use Rattle.pq_lex.specs.Values.{text_value_of, value_from}
use Rattle.pq_syntax.specs.aux.LL1.{AreLL1}
use Rattle.pq_syntax.specs.aux.LL1Test.{is_ll1}
use Rattle.pq_syntax.specs.Grammar.{balanced, nested, item, file, proto_file, deeper_file}
use Rattle.pq_syntax.specs.Rule.Rule.{Star}
use Rattle.std.specs.Str.{bytes_eq}
use Rattle.pq_syntax.specs.Words.{Word, accepts}
use Rattle.pq_syntax.specs.declared.terminal.Terminal.{Terminal}
use Rattle.pq_syntax.specs.declared.terminal.Terminal.TheVariants.{SyntaxWord, ImportWord, PackageWord, OptionWord, MessageWord, EnumWord, ServiceWord, MethodWord, ReturnsWord, StreamWord, OneofWord, MapWord, ReservedWord, ExtendWord, ToWord, MaxWord, ImportKindWord, LabelWord, KeyTypeName, InfOrNan, AnyIdentifier, FieldTypeName, MemberTypeName, ValueName, MethodTypeName, AnyInteger, AnyFloat, AnyText, Version, Semicolon, Equals, Comma, Dot, Minus, Plus, OpenBrace, CloseBrace, OpenBracket, CloseBracket, OpenParenthesis, CloseParenthesis, Less, Greater, Plain}
use Rattle.pq_syntax.proofs.Apart.{apart, apart_sound}
use Rattle.pq_syntax.proofs.LL1Decided.{decided}

abbrev of_kind : Kind → List ℕ → Word
of_kind k text = record { kind = k; span = record { start = 0; end = 0 }; text = text }

-- a spelling of the version has its value
version_value : text_value_of (codes "'proto3'") ≡ codes "proto3"
unfolding text_value_of value_from
version_value = refl

pub samples : (c : Terminal) → (w : Word) × (accepts c w ≡ true)
samples SyntaxWord = (of_kind Identifier (codes "syntax"), refl)
samples ImportWord = (of_kind Identifier (codes "import"), refl)
samples PackageWord = (of_kind Identifier (codes "package"), refl)
samples OptionWord = (of_kind Identifier (codes "option"), refl)
samples MessageWord = (of_kind Identifier (codes "message"), refl)
samples EnumWord = (of_kind Identifier (codes "enum"), refl)
samples ServiceWord = (of_kind Identifier (codes "service"), refl)
samples MethodWord = (of_kind Identifier (codes "rpc"), refl)
samples ReturnsWord = (of_kind Identifier (codes "returns"), refl)
samples StreamWord = (of_kind Identifier (codes "stream"), refl)
samples OneofWord = (of_kind Identifier (codes "oneof"), refl)
samples MapWord = (of_kind Identifier (codes "map"), refl)
samples ReservedWord = (of_kind Identifier (codes "reserved"), refl)
samples ExtendWord = (of_kind Identifier (codes "extend"), refl)
samples ToWord = (of_kind Identifier (codes "to"), refl)
samples MaxWord = (of_kind Identifier (codes "max"), refl)
samples ImportKindWord = (of_kind Identifier (codes "public"), refl)
samples LabelWord = (of_kind Identifier (codes "optional"), refl)
samples KeyTypeName = (of_kind Identifier (codes "int32"), refl)
samples InfOrNan = (of_kind Identifier (codes "inf"), refl)
samples AnyIdentifier = (of_kind Identifier [], refl)
samples FieldTypeName = (of_kind Identifier [], refl)
samples MemberTypeName = (of_kind Identifier [], refl)
samples ValueName = (of_kind Identifier [], refl)
samples MethodTypeName = (of_kind Identifier [], refl)
samples AnyInteger = (of_kind Integer [], refl)
samples AnyFloat = (of_kind Float [], refl)
samples AnyText = (of_kind Text [], refl)
samples Version = (of_kind Text (codes "'proto3'"), ap (λ (value : List ℕ). bytes_eq value (codes "proto3")) version_value)
samples Semicolon = (of_kind Symbol (codes ";"), refl)
samples Equals = (of_kind Symbol (codes "="), refl)
samples Comma = (of_kind Symbol (codes ","), refl)
samples Dot = (of_kind Symbol (codes "."), refl)
samples Minus = (of_kind Symbol (codes "-"), refl)
samples Plus = (of_kind Symbol (codes "+"), refl)
samples OpenBrace = (of_kind Symbol (codes "{"), refl)
samples CloseBrace = (of_kind Symbol (codes "}"), refl)
samples OpenBracket = (of_kind Symbol (codes "["), refl)
samples CloseBracket = (of_kind Symbol (codes "]"), refl)
samples OpenParenthesis = (of_kind Symbol (codes "("), refl)
samples CloseParenthesis = (of_kind Symbol (codes ")"), refl)
samples Less = (of_kind Symbol (codes "<"), refl)
samples Greater = (of_kind Symbol (codes ">"), refl)
samples Plain = (of_kind Identifier [], refl)

-- what stands between brackets is clear before each bracket that may close it
record Balanced (n : ℕ) : Type 0 where
  brace : is_ll1 apart (balanced n) (CloseBrace ∷ []) ≡ true
  bracket : is_ll1 apart (balanced n) (CloseBracket ∷ []) ≡ true
  parenthesis : is_ll1 apart (balanced n) (CloseParenthesis ∷ []) ≡ true

balanced_clear : (n : ℕ) → Balanced n
unfolding nested
balanced_clear zero = record { brace = refl; bracket = refl; parenthesis = refl }
balanced_clear (suc n) =
    let b = balanced_clear n in
    record {
      brace = rw (b.brace, b.bracket, b.parenthesis) (refl {a = true});
      bracket = rw (b.brace, b.bracket, b.parenthesis)
          (refl {a = true});
      parenthesis = rw (b.brace, b.bracket, b.parenthesis) (refl {a = true});
    }

items_clear : (n levels : ℕ) → is_ll1 apart (Star (item n levels)) (CloseBrace ∷ []) ≡ true
unfolding item
items_clear n zero = let b = (balanced_clear n).brace in rw b (refl {a = true})
items_clear n (suc levels) = let b = (balanced_clear n).brace in let d = items_clear n levels in rw (b, d) (refl {a = true})

file_is_clear : (n levels : ℕ) → is_ll1 apart (file n levels) [] ≡ true
file_is_clear n levels = let b = (balanced_clear n).brace in let d = items_clear n levels in rw (b, d) (refl {a = true})

file_clear : (n levels : ℕ) → AreLL1 accepts (file n levels ∷ [])
file_clear n levels = (decided accepts apart apart_sound (file n levels) [] (λ w. false) (λ w h. cc) (file_is_clear n levels), tt)

pub clear : AreLL1 accepts (proto_file ∷ [])
clear = file_clear 63 63

pub deeper_clear : AreLL1 accepts (deeper_file ∷ [])
deeper_clear = file_clear 64 64
