-- That a token manager stays sound.
use Rattle.std.proofs.Common.{◌≡◌, ◌≤◌, ◌<◌, ℕ, ◌^◌, Bool, true, false, ◌==◌, ◌||◌, not, List, length, Option, Some}
use Rattle.std.proofs.Common.{None, is_some, is_none, IfSome, refl, inl, inr, ap, eq-eqb, arith}
use Rattle.std.specs.List.{find}
use Rattle.std.proofs.lemmas.Bool.{cases_Bool, or_parts, and_parts, le-leb, false≢true}
use Rattle.base_types.specs.declared.limits.TheConstants.{NEEDS_MAX}
use Rattle.token_types.specs.declared.token.Token.{Token}
use Rattle.token_manager.specs.declared.want.Want.{Want}
use Rattle.token_manager.specs.Grants.{is_blocked, pinned_in_the_way, with_grant}
use Rattle.token_manager.specs.Laws.{IsLawful, HasRoom, was_asked}
use Rattle.token_manager.specs.Managers.{Manager, has_to_wait, grants_asked, queue_asked, after_ask, can_decide}
use Rattle.token_manager.specs.Managers.{first_ready, after_decision, grants_after, queue_after, grants_ready}
use Rattle.token_manager.specs.Managers.{queue_ready, after_ready, is_ready_at, ready_at, after_decide, grants_decided}
use Rattle.token_manager.specs.Managers.{queue_decided, after_enqueue}
use Rattle.token_manager.specs.Wants.{first_ahead, without_want}
use Rattle.token_manager.proofs.Lawful.{lawful_grant, lawful_latest, lawful_push, lawful_filter}
use Rattle.token_manager.proofs.Rooms.{all_found, found_passes, room_at_once, room_queued, room_filter, room_later}

pub record IsSound (manager : Manager) : Type 0 where
  pub lawful : IsLawful manager.grants manager.queue manager.latest
  pub room : HasRoom manager.grants.table.last manager.asked manager.queue

-- nothing stands before
none_ahead : (queue : List Want) (want : Want) → is_some (first_ahead queue want) ≡ false →
    is_none (first_ahead queue want) ≡ true
none_ahead queue want e = ap not e

pub sound_ask : (manager : Manager) (want : Want) → manager.asked < 2 ^ 44 → IfSome manager.latest (λ latest.
    latest < want.number) → length want.needs ≤ NEEDS_MAX → IsSound manager → IsSound (after_ask manager want)
unfolding grants_asked queue_asked
sound_ask manager want few later small h =
    elim (cases_Bool (has_to_wait manager want)) [
      | inl waits ↦ rw waits (record {
        lawful = lawful_push manager.grants manager.queue manager.latest want later h.lawful;
        room = room_queued manager.grants.table.last manager.asked manager.queue want few small h.room;
      })
      | inr free ↦
          let parts = or_parts (is_blocked manager.grants want) (is_some (first_ahead manager.queue want)) free in
          rw free (record {
            lawful = lawful_grant manager.grants manager.queue (Some want.number) want (le-leb want.number want.number
                (omega arith)) (none_ahead manager.queue want parts.1)
                (lawful_latest manager.grants manager.queue manager.latest want.number later h.lawful);
            room = room_at_once manager.grants.table.last manager.asked manager.queue (length want.needs) few small
                h.room;
          })
    ]

-- the want leaves the queue
left_out : (number : ℕ) → not (number == number) ≡ false
left_out number = ap not (eq-eqb number number refl)

-- where nothing pinned is in the way nothing is
pub not_blocked : (blocked : Bool) (pinned : Option Token) → pinned ≡ None → (not blocked || is_some pinned) ≡ true →
    blocked ≡ false
not_blocked false pinned e h = refl
not_blocked true None e h = absurd (false≢true h)
not_blocked true (Some token) e h = absurd cc

-- one of the queued wants is decided that can be
decided : (manager : Manager) (q : Want → Bool) (want : Want) (pinned : Option Token) → find q manager.queue ≡ Some want →
    can_decide manager.grants manager.queue want ≡ true → pinned_in_the_way manager.grants want ≡ pinned → IsSound manager →
    IsSound (record manager {
      grants = after_decision manager.grants want pinned;
      queue = without_want manager.queue
          want.number;
    })
decided manager q want (Some token) found can e h =
    record {
      lawful = lawful_filter manager.grants manager.queue manager.latest (λ other. not (other.number == want.number))
          h.lawful;
      room = room_filter manager.grants.table.last manager.asked manager.queue (λ other.
          not (other.number == want.number)) h.room;
    }
decided manager q want None found can e h =
    let parts = and_parts (is_none (first_ahead manager.queue want)) (not (is_blocked manager.grants want) || is_some
    (pinned_in_the_way manager.grants want)) can in
    let asked = all_found (λ other. was_asked manager.latest other.number ≡ true) q manager.queue want found h.lawful.asked in
    record {
      lawful = lawful_filter (with_grant manager.grants want) manager.queue manager.latest (λ other.
          not (other.number == want.number))
          (lawful_grant manager.grants manager.queue manager.latest want asked parts.0 h.lawful);
      room = room_later manager.grants.table.last manager.asked manager.queue q
          (λ other. not (other.number == want.number)) want found (left_out want.number) h.room;
    }

-- so is the first of some that can be decided, where there is one
ready_or_not : (manager : Manager) (q : Want → Bool) (ready : Option Want) → find q manager.queue ≡ ready →
    ((want : Want) → q want ≡ true → can_decide manager.grants manager.queue want ≡ true) → IsSound manager →
    IsSound (record manager { grants = grants_after manager.grants ready; queue = queue_after manager.queue ready })
ready_or_not manager q None e can h = record { lawful = h.lawful; room = h.room }
ready_or_not manager q (Some want) e can h =
    decided manager q want (pinned_in_the_way manager.grants want) e (can want (found_passes q manager.queue want e)) refl h

pub sound_ready : (manager : Manager) → IsSound manager → IsSound (after_ready manager)
unfolding grants_ready queue_ready
sound_ready manager h =
    ready_or_not manager (can_decide manager.grants manager.queue) (first_ready manager) refl (λ want can. can) h

pub sound_decide : (manager : Manager) (number : ℕ) → IsSound manager → IsSound (after_decide manager number)
unfolding grants_decided queue_decided
sound_decide manager number h =
    ready_or_not manager (is_ready_at manager.grants manager.queue number) (ready_at manager number) refl
    (λ want ready. (and_parts (want.number == number) (can_decide manager.grants manager.queue want) ready).1) h

pub sound_enqueue : (manager : Manager) (want : Want) → manager.asked < 2 ^ 44 → IfSome manager.latest (λ latest.
    latest < want.number) → length want.needs ≤ NEEDS_MAX → IsSound manager → IsSound (after_enqueue manager want)
sound_enqueue manager want few later small h = record {
  lawful = lawful_push manager.grants manager.queue manager.latest want later h.lawful;
  room = room_queued manager.grants.table.last manager.asked manager.queue want few small h.room;
}
