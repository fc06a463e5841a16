-- What a body says always has a label where it is a request.
use Rattle.std.proofs.Common.{◌≡◌, ◌≢◌, ◌&&◌, Bool, true, false, List, ℕ, Option, Some, None, refl, Result, Ok, Err}
use Rattle.std.specs.Prelude.{is_some, codes, option_and_then, IfOk, unwrap_or, option_map, if◌then◌else◌}
use Rattle.serde_json.specs.Data.{Data, Num, unsigned, negative, float, null, boolean, number, string, array, object}
use Rattle.serde_json.specs.Find.{as_object, as_integer, as_str, get}
use Rattle.pq_frame.specs.Labels.{no_label, integer_label, label_of}
use Rattle.pq_frame.specs.Messages.{MessageModel, message_of, message_by_members, IsLabelled, is_id, if_there, is_text, is_version, kind_of, params_of, is_answer, invalid}

number_labelled : (n : Num) → is_some (option_map integer_label (as_integer n)) ≡ true → unwrap_or (option_map integer_label (as_integer n)) no_label ≢ no_label
number_labelled (unsigned n) h = λ e. cc e
number_labelled (negative z) h = λ e. cc e
number_labelled (float x) h = cc

id_labelled : (d : Data) → is_id d ≡ true → label_of (Some d) ≢ no_label
id_labelled null h = cc
id_labelled (boolean b) h = cc
id_labelled (number n) h = number_labelled n h
id_labelled (string text) h = λ e. cc e
id_labelled (array ds) h = cc
id_labelled (object ms) h = cc

kind_labelled : (id : Option Data) (method : Option (List ℕ)) (params : Option Data) (answers : Bool) → if_there is_id id ≡ true → IsLabelled (kind_of id method params answers)
kind_labelled id None params true h = tt
kind_labelled id None params false h = tt
kind_labelled None (Some method) params answers h = tt
kind_labelled (Some d) (Some method) params answers h = id_labelled d h

chosen : (version text id : Bool) (kind other : MessageModel) → (id ≡ true → IsLabelled kind) → IsLabelled other → IsLabelled (if version && text && id then kind else other)
chosen false text id kind other h g = g
chosen true false id kind other h g = g
chosen true true false kind other h g = g
chosen true true true kind other h g = h refl

either : (is_object : Bool) (members other : MessageModel) → IsLabelled members → IsLabelled other → IsLabelled (if is_object then members else other)
either false members other h g = g
either true members other h g = h

members_labelled : (d : Data) (version id method : Option Data) → IsLabelled (message_by_members d version id method)
members_labelled d version id method =
    chosen (is_version version) (if_there is_text method) (if_there is_id id)
    (kind_of id (option_and_then as_str method) (params_of d) (is_answer d)) (invalid (label_of id))
    (kind_labelled id (option_and_then as_str method) (params_of d) (is_answer d)) tt

pub said_labelled : (json : Option Data) → IsLabelled (message_of json)
unfolding message_of
said_labelled None = tt
said_labelled (Some d) =
    either (is_some (as_object d)) (message_by_members d (get (codes "jsonrpc") d) (get (codes "id") d) (get (codes "method") d)) (invalid no_label)
    (members_labelled d (get (codes "jsonrpc") d) (get (codes "id") d) (get (codes "method") d)) tt

pub if_ok_weaker : {X E : Type 0} {P Q : X → Type 0} (r : Result X E) → IfOk r P → ((x : X) → P x → Q x) → IfOk r Q
if_ok_weaker (Ok x) h f = f x h
if_ok_weaker (Err e) h f = h
