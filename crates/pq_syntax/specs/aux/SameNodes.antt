-- Auxiliary: what `==` tells of trees and their parts: it holds exactly of two that are the same. The
-- lemmas are here, since the laws of `==` cite them.
--     Told E               E of two values holds exactly where they are the same
--     no_field, one_field, fields      of the fields of a struct or a variant, as `denote.Struct.Values` nests them
--     no_variant, variants             of the sum of an enum's variants, each by its fields
--     of_struct, of_enum, of_bare      of a type, from its fields, from its variants, or by its tags alone
use Rattle.std.proofs.Common.{◌≡◌, ◌⊎◌, inl, inr, List, ⊎_elim, Bool, true, false, ◌&&◌, true≢false, Some, None, Decides, refl, sym, ap}
use Rattle.std.specs.Option.{option_eq}
use Rattle.std.specs.Cmp.{IsEquivalence, IsPartialEquivalence, decided, partial_equiv_from_equiv, unsigned_Decides, booleans_Decides}
use Rattle.std.specs.Cmp.Lexicographic.{pointwise, pointwise_decides, bytes_decides}
use Rattle.std.proofs.lemmas.Bool.Decides.{Decides-and, Decides-like}
use denote.Struct.Values.{Values}
use denote.Struct.Record as structs
use denote.Enum.Declared as enums
use denote.Enum.Declared.{Declared, Choice}
use denote.Enum.Bare.{Bare, sameb, same_true, true_same}
use Rattle.pq_lex.specs.contracts.token as token
use Rattle.pq_syntax.specs.contracts.parts as parts
use Rattle.pq_syntax.specs.contracts.tree as tree
use Rattle.pq_syntax.specs.declared.tree.Node.{Node}

abbrev pub Told : {A : Type 0} → (A → A → Bool) → Type 0
Told {A} E = (a b : A) → Decides (E a b) (a ≡ b)

-- ---- fields

pub no_field : Told (λ (x y : Unit {0}). true)
no_field x y = (λ _. refl, λ _. refl)

pub one_field : {A : Type 0} {E : A → A → Bool} → Told E → Told (λ (x y : A × Unit {0}). E x.0 y.0)
one_field told x y = (λ t i. ((told x.0 y.0).0 t i, tt), λ e. (told x.0 y.0).1 (λ i. (e i).0))

pub fields : {A B : Type 0} {E : A → A → Bool} {F : B → B → Bool} → Told E → Told F → Told (λ (x y : A × B). E x.0 y.0 && F x.1 y.1)
fields {E = E} {F = F} first others x y =
    Decides-like (E x.0 y.0 && F x.1 y.1) (λ p i. (p.0 i, p.1 i)) (λ e. (λ i. (e i).0, λ i. (e i).1)) (Decides-and (E x.0 y.0) (F x.1 y.1) (first x.0 y.0) (others x.1 y.1))

pub of_struct : (N : structs.Record)
    → structs.Propositions N
    → {E : Values N.parts → Values N.parts → Bool}
    → Told E
    → Told (λ (x y : N.D). E (N.as_values x) (N.as_values y))
of_struct N alone {E} told x y = Decides-like (E (N.as_values x) (N.as_values y)) (structs.values_one N alone x y) (ap N.as_values) (told (N.as_values x) (N.as_values y))

-- ---- variants

pub no_variant : Told (λ (c d : ⊥). absurd {A = Bool} c)
no_variant c d = absurd c

abbrev pub sides : {A B : Type 0} → (A → A → Bool) → (B → B → Bool) → A ⊎ B → A ⊎ B → Bool
sides E F c d = ⊎_elim (λ x. ⊎_elim (λ y. E x y) (λ _. false) d) (λ x. ⊎_elim (λ _. false) (λ y. F x y) d) c

pub variants : {A B : Type 0} {E : A → A → Bool} {F : B → B → Bool} → Told E → Told F → Told (sides E F)
variants first others (inl x) (inl y) = (λ t. ap inl ((first x y).0 t), λ e. (first x y).1 cc)
variants first others (inl x) (inr y) = (λ t. absurd (true≢false (sym t)), λ e. cc)
variants first others (inr x) (inl y) = (λ t. absurd (true≢false (sym t)), λ e. cc)
variants first others (inr x) (inr y) = (λ t. ap inr ((others x y).0 t), λ e. (others x y).1 cc)

pub of_enum : (N : enums.Record) → {E : Choice N.parts → Choice N.parts → Bool} → Told E → Told (λ (x y : N.D). E (N.as_values x) (N.as_values y))
of_enum N {E} told x y = Decides-like (E (N.as_values x) (N.as_values y)) (enums.values_one N x y) (ap N.as_values) (told (N.as_values x) (N.as_values y))

pub of_bare : (D : Declared) → Bare D.parts → Told (sameb D)
of_bare D bare a b = (same_true D bare a b, true_same D a b)

-- ---- options

pub option : {A : Type 0} {E : A → A → Bool} → Told E → Told (option_eq E)
option told None None = (λ _. refl, λ _. refl)
option told None (Some y) = (λ t. absurd (true≢false (sym t)), λ e. cc)
option told (Some x) None = (λ t. absurd (true≢false (sym t)), λ e. cc)
option told (Some x) (Some y) = (λ t. ap Some ((told x y).0 t), λ e. (told x y).1 cc)

-- ---- each type of a tree

pub span : Told token.SpanPartialEq.TheImpl.ghosts.eq
span = of_struct token.Span.struct token.Span.the_propositions (fields unsigned_Decides (one_field unsigned_Decides))

pub name : Told parts.NamePartialEq.TheImpl.ghosts.eq
name = of_struct parts.Name.struct parts.Name.the_propositions (fields bytes_decides (one_field span))

pub number : Told parts.NumberPartialEq.TheImpl.ghosts.eq
number = of_struct parts.Number.struct parts.Number.the_propositions (fields booleans_Decides (fields (option unsigned_Decides) (one_field span)))

pub strings : Told parts.StringsPartialEq.TheImpl.ghosts.eq
strings = of_struct parts.Strings.struct parts.Strings.the_propositions (fields (pointwise_decides unsigned_Decides) (one_field span))

pub name_part : Told parts.NamePartPartialEq.TheImpl.ghosts.eq
name_part = of_struct parts.NamePart.struct parts.NamePart.the_propositions (fields booleans_Decides (fields bytes_decides (one_field span)))

pub constant_kind : Told parts.ConstantKindPartialEq.TheImpl.ghosts.eq
constant_kind = of_bare parts.ConstantKind.the_type tt

pub constant : Told parts.ConstantPartialEq.TheImpl.ghosts.eq
constant = of_struct parts.Constant.struct parts.Constant.the_propositions (fields constant_kind (fields bytes_decides (one_field span)))

pub setting : Told parts.SettingPartialEq.TheImpl.ghosts.eq
setting = of_struct parts.Setting.struct parts.Setting.the_propositions (fields (pointwise_decides name_part) (fields constant (one_field span)))

pub range_end : Told parts.RangeEndPartialEq.TheImpl.ghosts.eq
range_end = of_enum parts.RangeEnd.enum (variants no_field (variants (one_field number) (variants no_field no_variant)))

pub range : Told parts.RangePartialEq.TheImpl.ghosts.eq
range = of_struct parts.Range.struct parts.Range.the_propositions (fields number (fields range_end (one_field span)))

pub method_type : Told parts.MethodTypePartialEq.TheImpl.ghosts.eq
method_type = of_struct parts.MethodType.struct parts.MethodType.the_propositions (fields booleans_Decides (one_field name))

pub import_kind : Told tree.ImportKindPartialEq.TheImpl.ghosts.eq
import_kind = of_bare tree.ImportKind.the_type tt

pub label : Told tree.LabelPartialEq.TheImpl.ghosts.eq
label = of_bare tree.Label.the_type tt

pub statement : Told tree.StatementPartialEq.TheImpl.ghosts.eq
statement =
    let settings = pointwise_decides setting in
    of_enum tree.Statement.enum
    (variants (fields import_kind (one_field strings))
    (variants (one_field name)
    (variants (one_field setting)
    (variants (one_field name)
    (variants (fields (option label) (fields name (fields name (fields number (one_field settings)))))
    (variants (fields name (fields name (fields name (fields number (one_field settings)))))
    (variants (one_field name)
    (variants (one_field (pointwise_decides range))
    (variants (one_field (pointwise_decides strings))
    (variants (one_field name)
    (variants (fields name (fields number (one_field settings)))
    (variants (one_field name)
    (variants (fields name (fields method_type (one_field method_type)))
    (variants (one_field name) no_variant))))))))))))))

pub node : Told tree.NodePartialEq.TheImpl.ghosts.eq
node = of_struct tree.Node.struct tree.Node.the_propositions (fields unsigned_Decides (fields span (one_field statement)))

pub nodes : Told (pointwise tree.NodePartialEq.TheImpl.ghosts.eq)
nodes = pointwise_decides node

-- ---- `==` of trees

-- `same_nodes xs ys` is whether the statements `xs` and `ys` are as many, and equal one by one
abbrev pub same_nodes : List Node → List Node → Bool
same_nodes = pointwise tree.NodePartialEq.TheImpl.ghosts.eq

pub nodes_equiv : IsEquivalence same_nodes
nodes_equiv = decided same_nodes nodes

pub nodes_per : IsPartialEquivalence same_nodes
nodes_per = partial_equiv_from_equiv nodes_equiv
