-- Which acts a store does now, read from the last numbers that it tells.
use Rattle.std.proofs.Common.{Bool, List, None, Option, Some, ap, arith, false, is_some, nat_lt, refl, sym, true, ℕ, ◌<◌, ◌∙◌, ◌≡◌}
use Rattle.std.specs.Option.{option_map_or}
use Rattle.std.specs.Prelude.{if◌then◌else◌}
use Rattle.std.proofs.lemmas.Grind.{common_steps}
use Rattle.base_types.specs.declared.ids.FilesetId.{FilesetId}
use Rattle.base_types.specs.declared.ids.HostId.{HostId}
use Rattle.tree_calls.specs.declared.call.Call.{Call}
use Rattle.tree_calls.specs.declared.reply.Refusal.TheVariants.{NoFileset}
use Rattle.tree_calls.specs.declared.ship.Record.{Record}
use Rattle.store_acts.specs.Acts.{act_done, do_outcome, refuse_outcome}
use Rattle.store_state.specs.Giving.{give_outcome}
use Rattle.store_state.specs.Outcomes.{Outcome, decided, decided_once, not_fresh, stale, unless_before}
use Rattle.store_state.specs.Rows.{answer_to, numbered_id, numbered_name}
use Rattle.store_state.specs.State.{record_of, records_of}
use Rattle.store_state.specs.declared.done.Done.{Done}
use Rattle.tree_calls.specs.declared.reply.Reply.TheVariants.{Ok as Accepted, Refused}
use Rattle.store_state.specs.Replies.{kept_reply}
use Rattle.store_state.specs.declared.state.StoreState.{StoreState}
use Rattle.run_stores.specs.Numbers.{IsNext, NumbersAreTold}

pub below_so : (a b : ℕ) → nat_lt a b ≡ true → a < b
below_so a b e = grind (arith, common_steps, e)

lt_told : (a b : ℕ) → a < b → nat_lt a b ≡ true
lt_told a b e = grind (arith, common_steps, e)

-- what was settled under a number, where something is kept of requests
abbrev settled : (Record → ℕ) → (Record → Done) → HostId → ℕ → Option (List Record) → Option Done
settled last old host number found =
    option_map_or (λ records. if nat_lt (last (record_of records host)) number then None
    else Some (old (record_of records host))) found (Some (not_fresh (Refused NoFileset)))

module _ (last : Record → ℕ) (old : Record → Done) (stale_so : (kept : Record) → (old kept).fresh ≡ false)
    (state : StoreState) (host : HostId) (number : ℕ) (outcome : Outcome) (now : outcome.done.fresh ≡ true) where
  abbrev told : Option (List Record) → ℕ
  told found = option_map_or (λ records. last (record_of records host)) found 0

  abbrev fresh_by : Option (List Record) → Type 0
  fresh_by found = (unless_before (settled last old host number found) state outcome).done.fresh ≡ true

  pub next_so : (found : Option (List Record)) → is_some found ≡ true → told found < number → fresh_by found
  next_so None there above = absurd (cc)
  next_so (Some records) there above =
      ap (λ b. (unless_before (if b then None else Some (old (record_of records host))) state outcome).done.fresh)
      (lt_told (last (record_of records host)) number above) ∙ now

  pub so_next : (found : Option (List Record)) → fresh_by found → (is_some found ≡ true) × (told found < number)
  so_next None e = absurd (cc)
  so_next (Some records) e = (refl, by (nat_lt (last (record_of records host)) number) refl e)
    where
      by : (b : Bool) → nat_lt (last (record_of records host)) number ≡ b →
          (unless_before (if b then None else Some (old (record_of records host))) state outcome).done.fresh ≡ true →
          last (record_of records host) < number
      by true k e = below_so (last (record_of records host)) number k
      by false k e = let clash : false ≡ true = sym (stale_so (record_of records host)) ∙ e in absurd (cc)

abbrev change_of : Record → ℕ
change_of kept = kept.change

abbrev give_of : Record → ℕ
give_of kept = kept.give

abbrev kept_so : Record → Done
kept_so kept = not_fresh (kept_reply kept)

abbrev given_so : Record → Done
given_so kept = not_fresh Accepted

-- what becomes of a call under the fileset that numbers it
abbrev done_by : StoreState → HostId → ℕ → Call → Option FilesetId → Outcome
done_by state host number call found =
    option_map_or (λ id. decided_once state id host number (decided id host number (answer_to state host call)))
    found (stale (Refused NoFileset) state)

changed_so : (state : StoreState) (host : HostId) (number : ℕ) (call : Call) (found : Option FilesetId) →
    numbered_id state (numbered_name call) ≡ found → (done_by state host number call found).done.fresh ≡ true →
    (id : FilesetId) × (numbered_id state (numbered_name call) ≡ Some id) × IsNext state host id change_of number
changed_so state host number call None e h = absurd (cc)
changed_so state host number call (Some id) e h = (
  id,
  e,
  so_next change_of kept_so (λ r. refl) state host number
      (decided id host number (answer_to state host call)) refl (records_of state id) h,
)

pub numbers_are_told : NumbersAreTold
unfolding act_done do_outcome refuse_outcome give_outcome
numbers_are_told = record {
  changes = λ state host number call id e next.
      ap (λ found. (done_by state host number call found).done.fresh) e
      ∙ next_so change_of kept_so (λ r. refl) state host number
      (decided id host number (answer_to state host call)) refl
      (records_of state id) next.0 next.1;
  changed = λ state host number call e.
      changed_so state host number call (numbered_id state (numbered_name call)) refl e;
  refusals = λ state host number id refusal next.
      next_so change_of kept_so (λ r. refl) state host number _ refl (records_of state id) next.0 next.1;
  refused = λ state host number id refusal e.
      so_next change_of kept_so (λ r. refl) state host number _ refl (records_of state id) e;
  gives = λ state host number fid pieces given next.
      next_so give_of given_so (λ r. refl) state host number _ refl (records_of state fid.fileset) next.0 next.1;
  given = λ state host number fid pieces given e.
      so_next give_of given_so (λ r. refl) state host number _ refl (records_of state fid.fileset) e;
}
