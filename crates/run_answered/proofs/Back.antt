-- What was so of doings before, from what was so after others.
use Rattle.std.proofs.Common.{ℕ, List, [], ◌∷◌, inl, inr}
use Rattle.base_types.specs.declared.ids.HostId.{HostId}
use Rattle.base_types.specs.declared.ids.ServerId.{ServerId}
use Rattle.message_types.specs.declared.message.Body.{Body}
use Rattle.message_types.specs.declared.message.Message.{Message}
use Rattle.token_types.specs.declared.token.Token.{Token}
use Rattle.run_rules.specs.Doings.{Doing, admitting, after_admitting, after_deciding, after_step, deciding, sending}
use Rattle.run_rules.specs.Doings.Doing.{Admits, MakesWant, Moves, Reserves, Sent, WritesDown}
use Rattle.run_rules.specs.Past.{Once, appended}
use Rattle.run_rules.specs.declared.applied.Applied.TheVariants.{Done as IsDone, IsDown, Replied, Stored}
use Rattle.run_rules.specs.declared.applied.Applied.TheVariants.{Moves as IsMoved, Wants as IsWanted}
use Rattle.run_rules.specs.declared.applied.Admission.{Admission}
use Rattle.run_rules.specs.declared.applied.Applied.{Applied}
use Rattle.run_rules.specs.declared.applied.Wanted.{Wanted}
use Rattle.run_rules.specs.declared.applied.Written.{Written}
use Rattle.run_rules.specs.declared.applied.Move.{Move}
use Rattle.run_tokens.proofs.Ships.{once_shipped, once_ships}
use Rattle.run_rules.specs.Doings.Doing.{Puts}
use Rattle.run_rules.specs.Doings.{after_sending}
use Rattle.run_rules.specs.declared.step.Step.{Step}

pub later : {X : Type 0} (P : List X → X → Type 0) (xs ys : List X) → Once P ys → Once P (appended xs ys)
later P [] ys o = o
later P (x ∷ xs) ys o = later P xs (x ∷ ys) (inr o)

module _ (P : List Doing → Doing → Type 0) where
  on_one : (x : Doing) (ys : List Doing) → ((before : List Doing) → P before x → ⊥) → Once P (x ∷ ys) → Once P ys
  on_one x ys none (inl p) = absurd (none ys p)
  on_one x ys none (inr o) = o

  pub back_sending : ((before : List Doing) (h : HostId) (e n : ℕ) (b : Body) → P before (Sent h e n b) → ⊥)
      → (ms : List Message) (S : List Doing) → Once P (appended (sending ms) S) → Once P S
  back_sending none [] S o = o
  back_sending none (m ∷ ms) S o =
      on_one (Sent m.host m.epoch m.moves m.body) S (λ before. none before m.host m.epoch m.moves m.body)
      (back_sending none ms (Sent m.host m.epoch m.moves m.body ∷ S) o)

  pub back_admitting : ((before : List Doing) (h : HostId) (ts : List Token) → P before (Admits h ts) → ⊥)
      → (cs : List Admission) (S : List Doing) → Once P (appended (admitting cs) S) → Once P S
  back_admitting none [] S o = o
  back_admitting none (c ∷ cs) S o =
      on_one (Admits c.host c.tokens) S (λ before. none before c.host c.tokens)
      (back_admitting none cs (Admits c.host c.tokens ∷ S) o)

  pub back_deciding : ((before : List Doing) (w : Wanted) → P before (MakesWant w) → ⊥)
      → ((before : List Doing) (w : Written) → P before (WritesDown w) → ⊥)
      → ((before : List Doing) (move : Move) → P before (Moves move) → ⊥) → (xs : List Applied) (S : List Doing)
      → Once P (appended (deciding xs) S) → Once P S
  back_deciding wants writes moves [] S o = o
  back_deciding wants writes moves (IsWanted x ∷ xs) S o =
      on_one (MakesWant x) S (λ before. wants before x) (back_deciding wants writes moves xs (MakesWant x ∷ S) o)
  back_deciding wants writes moves (IsDone x ∷ xs) S o =
      on_one (WritesDown x) S (λ before. writes before x) (back_deciding wants writes moves xs (WritesDown x ∷ S) o)
  back_deciding wants writes moves (Replied x ∷ xs) S o = back_deciding wants writes moves xs S o
  back_deciding wants writes moves (Stored h f ss n ∷ xs) S o = back_deciding wants writes moves xs S o
  back_deciding wants writes moves (IsDown h ∷ xs) S o = back_deciding wants writes moves xs S o
  back_deciding wants writes moves (IsMoved move ∷ xs) S o =
      on_one (Moves move) S (λ before. moves before move) (back_deciding wants writes moves xs (Moves move ∷ S) o)

  -- after its decisions a step writes and takes nothing
  pub back_written : ((before : List Doing) (h : HostId) (e n : ℕ) (b : Body) → P before (Sent h e n b) → ⊥)
      → ((before : List Doing) (h : HostId) (ts : List Token) → P before (Admits h ts) → ⊥)
      → ((before : List Doing) (ts : List Token) → P before (Reserves ts) → ⊥)
      → ((before : List Doing) (to : ServerId) (n : ℕ) (b : Body) → P before (Puts to n b) → ⊥)
      → (s : Step) (S : List Doing)
      → Once P (after_step s S) → Once P (after_deciding s S)
  back_written sent admits reserves puts s S o =
      back_admitting admits s.admitted (after_deciding s S)
      (back_sending sent s.sent (after_admitting s S)
      (once_ships P puts s.shipped (after_sending s S)
      (on_one (Reserves s.reserved) _ (λ before. reserves before s.reserved) o)))

  pub on_written : (s : Step) (S : List Doing) → Once P (after_deciding s S) → Once P (after_step s S)
  on_written s S o =
      inr (once_shipped P s.shipped (after_sending s S)
      (later P (sending s.sent) (after_admitting s S) (later P (admitting s.admitted) (after_deciding s S) o)))
