-- Why the odd steps are refused.
use Rattle.std.proofs.Common.{[], ◌∷◌, ◌<◌, ℕ, Bool, List, ap, false, inl, inr, refl, suc, sym, zero, true, ◌≡◌, ◌∙◌}
use Rattle.std.proofs.Math.Dec.{eqb-suc-zero}
use Rattle.base_types.specs.declared.ids.HostId.{HostId}
use Rattle.base_types.specs.declared.ids.ServerId.{ServerId}
use Rattle.tree_calls.specs.declared.call.Call.TheVariants.{Lock}
use Rattle.message_types.specs.declared.asking.Change.{Change as ChangeOf}
use Rattle.message_types.specs.declared.message.Body.TheVariants.{Bye, Hello, Change, Reclaim, Restarted}
use Rattle.message_types.specs.declared.message.Message.{Message}
use Rattle.run_rules.specs.Doings.{Doing, Enlists, Hears, IsLive, ListedNow, TakenNow, doings_of}
use Rattle.run_rules.specs.Doings.Doing.{BeginsEpoch, Reserves, Sent}
use Rattle.run_rules.specs.HostDue.{HostDue}
use Rattle.run_rules.specs.HostMay.{HostMay}
use Rattle.run_rules.specs.Messages.{HasGreeted, IsWelcome}
use Rattle.run_rules.specs.ServerDecides.{IsMeantSo, IsNewRequest}
use Rattle.run_rules.specs.ServerMay.{ServerMay}
use Rattle.run_rules.specs.Wants.{locks_nothing}
use Rattle.run_rules.specs.declared.applied.Request.TheVariants.{Change as Changes}
use Rattle.run_rules.specs.declared.step.Cause.TheVariants.{Message as Came, Lapse}
use Rattle.run_rules.specs.declared.step.Step.{Step}
use Rattle.run_tokens.specs.Worked.{client, enter, from_server, site_one, to_host, to_server, welcome, welcomes}
use Rattle.message_types.specs.declared.message.Body.TheVariants.{Reclaimed}
use Rattle.run_examples.specs.Laws.{Does, restarting, writing}
use Rattle.run_examples.specs.Refused.{LocksBytes, OddSteps, asks_ungreeted, ends_old, gives_length, greets_twice}
use Rattle.run_examples.specs.Refused.{looking}
use Rattle.run_examples.specs.Refused.{no_tokens, restarted, tells_unasked, unasked, welcomes_old}
use Rattle.run_examples.specs.Steps.{file_tree, grown}
use Rattle.run_examples.proofs.Examples.{computed}
use Rattle.run_examples.proofs.HostChecks.{host_does}
use Rattle.run_examples.proofs.ServerWords.{away, down, goes_away, listed, live, live_yes, takes_bye, takes_down}
use Rattle.run_examples.proofs.ServerWords.{takes_hello}
use Rattle.run_tokens.specs.JournalWorked.{owner}

heard : Does looking client [] unasked
unfolding computed
heard = host_does site_one looking client owner [] unasked refl refl

not_told : ServerMay looking file_tree site_one [] (doings_of 1 site_one []) tells_unasked → ⊥
not_told may = elim (may.answers.reclaimed_only client welcome (to_host (Reclaimed welcome), inl refl, refl, refl)) [
  | inl x ↦ let p : Lapse ≡ Came x.0.0 = x.0.1 in cc
  | inr (inl x) ↦ elim x.1 [ ]
  | inr (inr x) ↦ let p : Lapse ≡ Came x.2.0.0 = x.2.0.1 in cc
]

-- the host is live, and came on the list before the server restarted
abbrev past_then : List Doing
past_then = doings_of 1 site_one restarted

lives : IsLive past_then client
unfolding takes_down takes_hello down listed takes_bye goes_away away live
lives = live_yes past_then client refl

no_greeting : (past : List Doing) (a : Doing) → (Hears a client Hello → ⊥) → Enlists past a client → ⊥
no_greeting past a none (l, new) = elim l [ inl p ↦ none p.0 | inr p ↦ new p ]

abbrev begun : List Doing
begun = BeginsEpoch 2 ∷ doings_of 1 site_one (welcomes ∷ [])

abbrev told : List Doing
told = Sent client 2 0 Restarted ∷ begun

not_now : ListedNow past_then client → ⊥
not_now (inl e) = no_greeting told (Reserves []) (λ p. let q = p.2 in cc) e
not_now (inr (inl e, b)) = no_greeting begun (Sent client 2 0 Restarted) (λ p. let q = p.2 in cc) e
not_now (inr (inr (inl e, c), b)) =
    no_greeting (doings_of 1 site_one (welcomes ∷ [])) (BeginsEpoch 2) (λ p. let q = p.2 in cc) e
not_now (inr (inr (inr (l, d), c), b)) = d (2, refl)

came_is : (m n : Message) → Came m ≡ Came n → m ≡ n
came_is m n e = cc

not_old : ServerMay restarting file_tree site_one restarted past_then welcomes_old → ⊥
not_old may = elim (may.answers.reclaimed_only client welcome
    (from_server (Reclaimed welcome), inr (inl refl), refl, refl)) [
      | inl x ↦ elim x.2 [ inl l ↦ l lives | inr l ↦ not_now l ]
      | inr (inl x) ↦ elim x.1 [ ]
      | inr (inr x) ↦ let is : Hello ≡ Reclaim x.1 = ap (λ (m : Message). m.body) (came_is _ _ x.2.0.1) ∙ x.2.0.5 in cc
    ]

not_late : ServerMay restarting file_tree site_one restarted past_then ends_old → ⊥
not_late may =
    let x = may.answers.bye_only client (from_server Bye, inr (inl refl), refl, refl) in old (x.2 lives)
  where
    old : (n : ℕ) × TakenNow past_then ends_old client n Bye → ⊥
    old (n, t) =
        let is : suc zero ≡ suc (suc zero) =
        ap (λ (m : Message). m.epoch) (came_is (to_server 1 Bye) t.0.0 t.0.1) ∙ t.0.3 in
        cc

none_said : (v : ServerId) → HasGreeted (unasked ∷ []) v → ⊥
none_said v (e, n, inl (m, is, sv, ev, nv, body)) = elim is [ ]
none_said v (e, n, inr o) = elim o [ ]

none_before : (v : ServerId) → HasGreeted [] v → ⊥
none_before v (e, n, o) = elim o [ ]

not_welcome : IsWelcome (asks_ungreeted ∷ unasked ∷ []) site_one → ⊥
not_welcome (inl (greeted, more)) = none_said site_one greeted
not_welcome (inr (inl (greeted, more))) = none_before site_one greeted
not_welcome (inr (inr o)) = elim o [ ]

not_asked : HostMay looking client (unasked ∷ []) asks_ungreeted → ⊥
not_asked may = not_welcome
    (may.asks.changes_welcome site_one 1 0 enter (to_server 1 (Change enter), inl refl, refl, refl, refl, refl))

not_twice : HostDue looking client [] greets_twice → ⊥
not_twice due = due.once.0 (inl refl)

not_given : HostMay writing client grown gives_length → ⊥
not_given may = may.gives.names no_tokens (inl refl) refl

not_locked : (server : ServerId) (before past : List Doing) (s : Step) (host : HostId) (moves : ℕ)
    (change : ChangeOf) → LocksBytes change 0 → IsNewRequest server before past s host moves (Changes change) → ⊥
not_locked server before past s host moves change (label, place, writing, from, is) new =
    let so : locks_nothing change.call ≡ false = new.here.1.2 in
    let nothing : locks_nothing (Lock label place writing from 0) ≡ true = refl in cc

is_meant : (change : ChangeOf) (len : ℕ) → LocksBytes change len → 0 < len → change.enter ≡ false
    → change.fid.fileset ≡ change.fileset → IsMeantSo change
is_meant change zero locks more out named = elim more [ ]
is_meant change (suc len) (label, place, writing, from, is) more out named =
    let some : locks_nothing (Lock label place writing from (suc len)) ≡ false = eqb-suc-zero len in
    ((λ enters. absurd (cc)), (λ so. named), cc)

pub odd_steps : OddSteps
odd_steps = record {
  told = not_told;
  old = not_old;
  late = not_late;
  heard = heard;
  asks = not_asked;
  greets = not_twice;
  gives = not_given;
  nothing = not_locked;
  something = is_meant;
}
