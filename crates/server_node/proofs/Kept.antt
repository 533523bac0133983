-- Messages that were given, and are kept to be taken later.
use Rattle.std.proofs.Common.{◌≡◌, ⊎_elim, ℕ, ◌+◌, ◌<◌, ◌≤◌, zero, Bool, cond, List, [], ◌∷◌, ◌++◌, length}
use Rattle.std.proofs.Common.{Option, refl, sym, ap, ◌∙◌, subst, append_assoc, arith}
use Rattle.std.specs.Prelude.{remove, slice_index_or}
use Rattle.message_types.specs.Soundness.{Each}
use Rattle.message_types.specs.declared.message.Message.{Message}
use Rattle.hub_board.specs.declared.given.Given.{Given}
use Rattle.hub_laws.proofs.Embeds.{both_front}
use Rattle.hub_laws.proofs.Ends.{after_more}
use Rattle.hub_laws.specs.Keeping.{Round, is_lapse, lapse_in, lapses_given, lapses_taken}
use Rattle.hub_laws.specs.Keeping.{message_in, message_of, messages_given, messages_taken, steps_in}
use Rattle.hub_laws.specs.Taking.{Embeds}
use Rattle.hub_node.proofs.Keeping.{turn_more}
use Rattle.hub_node.specs.Keeping.{HasKeptOn, StepKeeps}
use Rattle.hub_node.specs.Nodes.{Knows, OwnMeets, Part}
use Rattle.run_rules.specs.Past.{Always, In, appended}
use Rattle.run_rules.specs.declared.step.Cause.TheVariants.{Message as CameBy}
use Rattle.run_rules.specs.declared.step.Step.{Step}
use Rattle.server_exporter.specs.Messages.{IsFor as IsForServer}
use Rattle.server_node.specs.Standing.{AreTheirs, latest_first}
use Rattle.server_tables.specs.declared.tables.Tables.{Tables}

-- # Their order

-- one more came
pub latest_more : (ms : List Message) (m : Message) → latest_first (ms ++ m ∷ []) ≡ m ∷ latest_first ms
latest_more [] m = refl
latest_more (x ∷ ms) m = ap (λ (l : List Message). l ++ x ∷ []) (latest_more ms m)

-- the first of them is taken
pub first_of : (ms : List Message) (m : Message) → 0 < length ms → m ≡ slice_index_or ms 0 m → ms ≡ m ∷ remove ms 0
first_of [] m some e = absurd (omega (arith, some))
first_of (x ∷ ms) m some e = ap (λ (y : Message). y ∷ ms) (sym e)

pub latest_but : (ms rest : List Message) (m : Message) → 0 < length ms → m ≡ slice_index_or ms 0 m
    → rest ≡ remove ms 0 → latest_first ms ≡ latest_first rest ++ m ∷ []
latest_but ms rest m some e r =
    ap latest_first (first_of ms m some e) ∙ ap (λ (l : List Message). latest_first l ++ m ∷ []) (sym r)

-- one is there
pub some_of : (ms : List Message) → (ms ≡ [] → ⊥) → 0 < length ms
some_of [] some = absurd (some refl)
some_of (m ∷ ms) some = omega arith

pub shorter : (ms rest : List Message) → 0 < length ms → rest ≡ remove ms 0 → length rest < length ms
shorter [] rest some r = absurd (omega (arith, some))
shorter (m ∷ ms) rest some r = let same : length rest ≡ length ms = ap (λ (l : List Message). length l) r in omega arith

-- # For whom they are

pub first_theirs : (x : Tables) (ms : List Message) (m : Message) → 0 < length ms → m ≡ slice_index_or ms 0 m
    → AreTheirs x ms → IsForServer x.server x.roster m
first_theirs x ms m some e all = (subst (AreTheirs x) (first_of ms m some e) all).0

pub rest_theirs : (x : Tables) (ms rest : List Message) → rest ≡ remove ms 0 → AreTheirs x ms → AreTheirs x rest
rest_theirs x ms rest r all = subst (AreTheirs x) (sym r) (by ms all)
  where
    by : (l : List Message) → AreTheirs x l → AreTheirs x (remove l 0)
    by [] all = tt
    by (m ∷ l) all = all.1

pub more_theirs : (x : Tables) (ms : List Message) (m : Message) → AreTheirs x ms → IsForServer x.server x.roster m
    → AreTheirs x (ms ++ m ∷ [])
more_theirs x [] m all one = (one, tt)
more_theirs x (y ∷ ms) m all one = (all.0, more_theirs x ms m all.1 one)

-- # What a node has kept to

abbrev one_if : Bool → ℕ
one_if b = cond b 1 0

module _ (tells : Type 0) (part : Part) where
  -- what was made is handed in; what was given may be taken still, as may what could be before
  pub round_more : (past : List Round) (made : List Step) (given : Option Given) (came : List Message)
      → HasKeptOn tells part past made came 0
      → HasKeptOn tells part (record { steps = made; given = given } ∷ past) [] (message_in given ++ came)
      (lapse_in given)
  round_more past made given came h =
      let r : Round = record { steps = made; given = given } in
      let own = appended made (steps_in past) in
      let lapsed : 0 + lapses_taken own ≤ lapses_given past = h.lapsed in record {
        steps = tt;
        all_own = h.all_own;
        messages = subst (λ l. Embeds l (messages_given (r ∷ past)))
            (sym (append_assoc (message_in given) came (messages_taken own)))
            (both_front (message_in given) (came ++ messages_taken own) (messages_given past) h.messages);
        lapsed = omega arith;
        meets = h.meets;
      }

  -- a step more, by the oldest message that may be taken still
  module _ (past : List Round) (made : List Step) (s : Step)
      (keeps : StepKeeps part.run part.node past (appended made (steps_in past)) s)
      (meets : Knows tells part.node → OwnMeets part.run part.node (appended made (steps_in past)) s) where
    abbrev own : List Step
    own = appended made (steps_in past)

    same : appended (made ++ s ∷ []) (steps_in past) ≡ s ∷ own
    same = after_more made (s ∷ []) (steps_in past)

    pub push_first : (m : Message) (rest : List Message) (lapses : ℕ) → s.cause ≡ CameBy m
        → HasKeptOn tells part past made (rest ++ m ∷ []) lapses
        → HasKeptOn tells part past (made ++ s ∷ []) rest lapses
    push_first m rest lapses by h =
        let taken : Embeds (rest ++ (message_of s.cause ++ messages_taken own)) (messages_given past) =
        subst (λ c. Embeds (rest ++ (message_of c ++ messages_taken own)) (messages_given past)) (sym by)
        (subst (λ l. Embeds l (messages_given past)) (append_assoc rest (m ∷ []) (messages_taken own)) h.messages) in
        let none : one_if (is_lapse s.cause) ≡ 0 = ap (λ c. one_if (is_lapse c)) by in
        let l = h.lapsed in
        let lapsed : lapses + (one_if (is_lapse s.cause) + lapses_taken own) ≤ lapses_given past = omega arith in
        record {
          steps = turn_more (StepKeeps part.run part.node past) made (steps_in past) s h.steps keeps;
          all_own = (λ x i. ⊎_elim
              (λ (e : x ≡ s). ap (λ (y : Step). y.node) e ∙ keeps.own_is)
              (λ (k : In x own). h.all_own x k)
              (subst (In x) same i));
          messages = subst (λ l. Embeds (rest ++ messages_taken l) (messages_given past)) (sym same) taken;
          lapsed = subst (λ l. lapses + lapses_taken l ≤ lapses_given past) (sym same) lapsed;
          meets = (λ told. subst (Always (OwnMeets part.run part.node)) (sym same) (h.meets told, meets told));
        }
