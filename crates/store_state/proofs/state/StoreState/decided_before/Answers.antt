use Rattle.std.proofs.Common.{◌≡◌, ℕ, List, Some, sym, ap, ◌∙◌}
use Rattle.std.specs.Option.{option_copied, option_map_or}
use Rattle.base_types.specs.declared.ids.FilesetId.{FilesetId}
use Rattle.base_types.specs.declared.ids.HostId.{HostId}
use Rattle.tree_calls.specs.declared.reply.Refusal.TheVariants.{NoFileset}
use Rattle.tree_calls.specs.declared.reply.Reply.TheVariants.{Refused}
use Rattle.tree_calls.specs.declared.ship.Record.{Record}
use Rattle.store_state.specs.declared.state.StoreState.{StoreState}
use Rattle.store_state.specs.Outcomes.{not_fresh, decided_by, decided_before}
use Rattle.store_state.specs.State.{records_of, record_of}
use Rattle.store_state.proofs.state.StoreState.decided_before.Goals as goal

-- where there are records
by_records : (state : StoreState) (id : FilesetId) (host : HostId) (number : ℕ) (records : List Record) → records_of state id ≡ Some records →
    decided_before state id host number ≡ decided_by (record_of records host) number
by_records state id host number records e =
    ap (λ found. option_map_or (λ records. decided_by (record_of records host) number) found (Some (not_fresh (Refused NoFileset)))) e

pub returns-in-Some : goal.returns-in-Some
returns-in-Some c =
    c.decided_by.ensures
    ∙ ap (λ kept. decided_by kept c.args.number) c.record_of.ensures
    ∙ sym (by_records c.args.self.now c.args.id c.args.host c.args.number c.in-Some.records.now (sym c.records_of.ensures ∙ ap option_copied c.in-Some.is))
