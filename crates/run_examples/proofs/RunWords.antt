-- The run is a run of its script, and it is ended.
use Rattle.base_types.specs.declared.ids.HostId.{HostId}
use Rattle.base_types.specs.declared.ids.ServerId.{ServerId}
use Rattle.message_types.specs.declared.message.Body.{Body}
use Rattle.message_types.specs.declared.message.Direction.TheVariants.{ToHost, ToServer}
use Rattle.message_types.specs.declared.message.Message.{Message}
use Rattle.run_examples.proofs.Tests.{at_all}
use Rattle.run_examples.proofs.Words.{in_said, said}
use Rattle.run_examples.specs.Journal.{journal, script}
use Rattle.script_lines.specs.declared.script.Deed.{Deed}
use Rattle.script_lines.specs.declared.script.Deed.TheVariants.{Await}
use Rattle.std.proofs.Common.{Bool, List, Some, [], false, inl, inr, refl, subst, suc, sym, true, zero, ℕ, ◌∙◌, ◌∷◌}
use Rattle.std.proofs.Common.{◌≡◌}
use Rattle.std.specs.List.{list_all}
use Rattle.std.specs.Prelude.{not, slice_get, ◌⊎◌}
use Rattle.run_rules.specs.Doings.{Doing, SentTo, doings_of}
use Rattle.run_rules.specs.Doings.Doing.{Sent}
use Rattle.run_rules.specs.Messages.{HasBye}
use Rattle.run_rules.specs.Messages.{HasGreeted, HasStopped, Said}
use Rattle.run_rules.specs.Past.{In}
use Rattle.run_rules.specs.Runs.{CameToHost, CameToServer, FlagsMet, firsts_of}
use Rattle.run_rules.specs.Steps.{lines_gone, lines_of, setup, steps_of_host}
use Rattle.run_tokens.specs.Worked.{site_one}
use Rattle.run_rules.specs.declared.step.Cause.{Cause}
use Rattle.run_rules.specs.declared.step.Cause.TheVariants.{Message as Came}
use Rattle.run_rules.specs.declared.step.Step.{Step}

-- the epochs in which servers start
abbrev pub firsts : ServerId → ℕ
firsts = firsts_of journal

-- an element at a place in a list
pub at_place : {A : Type 0} (n : ℕ) (xs : List A) (x : A) → slice_get xs n ≡ Some x → In x xs
at_place n [] x e = absurd (cc)
at_place zero (y ∷ ys) x e = inl (let p : Some y ≡ Some x = e in cc)
at_place (suc n) (y ∷ ys) x e = inr (at_place n ys x e)

sent_at : (past : List Doing) (h : HostId) (e n : ℕ) (b : Body) → In (Sent h e n b) past → SentTo past h e n b
sent_at [] h e n b m = elim m [ ]
sent_at (a ∷ past) h e n b (inl p) = inl (sym p)
sent_at (a ∷ past) h e n b (inr m) = inr (sent_at past h e n b m)

-- a cause was sent before: by the server as its doing of some place, by a host as its message of some place
pub cause_of : (s : Step) (m n : Message) → s.cause ≡ Came m → s.cause ≡ Came n → m ≡ n
cause_of s m n a b = let p : Came m ≡ Came n = sym a ∙ b in cc

pub to_a_host : (host : HostId) (past : List Step) (s : Step) (at : ℕ) (m : Message) → s.cause ≡ Came m → m.host ≡ host
    → m.direction ≡ ToHost → m.server ≡ site_one
    → slice_get (doings_of 1 site_one past) at ≡ Some (Sent host m.epoch m.moves m.body) → CameToHost firsts host past s
to_a_host host past s at m is h way v e n c =
    subst (λ (x : Message). (x.host ≡ host) × (x.direction ≡ ToHost)
    × SentTo (doings_of (firsts x.server) x.server past) host x.epoch x.moves x.body) (cause_of s m n is c) (
      h,
      way,
      subst (λ v. SentTo (doings_of (firsts v) v past) host m.epoch m.moves m.body) (sym v)
          (sent_at (doings_of 1 site_one past) host m.epoch m.moves m.body
          (at_place at (doings_of 1 site_one past) (Sent host m.epoch m.moves m.body) e)),
    )

pub to_the_server : (past : List Step) (s : Step) (at : ℕ) (m : Message) → s.cause ≡ Came m → m.server ≡ site_one
    → m.direction ≡ ToServer → slice_get (said (steps_of_host m.host past)) at ≡ Some m → CameToServer site_one past s
to_the_server past s at m is v way e n c =
    subst (λ (x : Message). (x.server ≡ site_one) × (x.direction ≡ ToServer)
    × Said (steps_of_host x.host past) site_one x.epoch x.moves x.body) (cause_of s m n is c) (
      v,
      way,
      subst (λ v. Said (steps_of_host m.host past) v m.epoch m.moves m.body) v
          (in_said (steps_of_host m.host past) m (at_place at (said (steps_of_host m.host past)) m e)),
    )

unfoldable pub no_message : Cause → Bool
no_message (Came m) = false
no_message _ = true

pub by_itself : (host : HostId) (past : List Step) (s : Step) → no_message s.cause ≡ true → CameToHost firsts host past s
unfolding no_message
by_itself host past s e m c = absurd (none (subst (λ x. no_message x ≡ true) c e))
  where
    none : no_message (Came m) ≡ true → ⊥
    none e = cc

pub itself_too : (past : List Step) (s : Step) → no_message s.cause ≡ true → CameToServer site_one past s
unfolding no_message
itself_too past s e m c = absurd (none (subst (λ x. no_message x ≡ true) c e))
  where
    none : no_message (Came m) ≡ true → ⊥
    none e = cc

-- no line awaits, and the setup host has no line
unfoldable pub is_await : Deed → Bool
is_await (Await flag) = true
is_await _ = false

pub flags : (past : List Step) (s : Step) → list_all (λ l. not (is_await l.deed)) (lines_of script s.node) ≡ true
    → steps_of_host setup past ≡ [] → FlagsMet script past s
unfolding is_await
flags past s lines none = record {
  awaits = λ n line flag c is e.
      absurd (awaits line.deed flag (at_all (λ l. not (is_await l.deed)) (lines_of script s.node) line lines is.0) e);
  setup_first = λ h n at other c.
      subst (λ (x : List Step). (lines_gone x ≡ 0) × (HasStopped x ⊎ ((v : ServerId) → HasGreeted x v → HasBye x v)))
      (sym none) (refl, inr (λ v g. elim g.2 [ ]));
}
  where
    awaits : (d : Deed) (flag : List ℕ) → not (is_await d) ≡ true → d ≡ Await flag → ⊥
    awaits d flag e is = let p : not (is_await (Await flag)) ≡ true = subst (λ d. not (is_await d) ≡ true) is e in cc
