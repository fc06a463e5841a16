-- Auxiliary: what contracts see of the fields of a store.
use Rattle.pq_core.specs.declared.store.store.Store.TheInside.{Inside}
use Rattle.pq_core.specs.Stores.{StoreView}

-- `store_of fields` is the store with the private fields `fields`, as contracts see it
abbrev pub store_of : {R M K V P : Type 0} → Inside R M K V P → StoreView R K P V M
store_of fields = record {
  rules = fields.memos.rules;
  places = fields.memos.places;
  inputs = fields.inputs;
  accounts = fields.accounts;
  opened = fields.opened;
  clients = fields.clients;
  waiting = fields.waiting.seats;
  runs = fields.runs;
  started = fields.started;
  claims = fields.claims;
}
