-- A node keeps on: it is given something, and makes a step.
use Rattle.std.proofs.Common.{◌≡◌, ⊎_elim, inr, ℕ, ◌+◌, ◌≤◌, Bool, true, false, cond, List, [], ◌∷◌, ◌++◌}
use Rattle.std.proofs.Common.{Option, refl, sym, ap, ◌∙◌, subst, append_assoc, arith}
use Rattle.base_types.specs.declared.ids.Node.{Node}
use Rattle.message_types.specs.Soundness.{IsSound}
use Rattle.message_types.specs.declared.message.Message.{Message}
use Rattle.script_lines.specs.declared.script.Deed.TheVariants.{Await}
use Rattle.script_lines.specs.declared.script.Line.{Line}
use Rattle.hub_laws.specs.Beginnings.{Rests, WasBegun}
use Rattle.run_rules.specs.Runs.{IsFrom, IsLine}
use Rattle.run_rules.specs.Steps.{lines_of}
use Rattle.run_rules.specs.Past.{Always, EachInTurn, In, appended}
use Rattle.run_rules.specs.declared.step.Cause.TheVariants.{Lapse, Line as LineOf, Message as CameBy}
use Rattle.run_rules.specs.declared.step.Step.{Step}
use Rattle.hub_board.specs.declared.given.Given.{Given}
use Rattle.hub_laws.specs.Keeping.{LineGoes, Round, WasTold, is_lapse, lapse_in, lapses_given, lapses_taken}
use Rattle.hub_laws.specs.Keeping.{message_in, message_of, messages_given, messages_taken, steps_in}
use Rattle.hub_laws.specs.Taking.{Embeds}
use Rattle.hub_laws.proofs.Embeds.{both_front, end}
use Rattle.hub_laws.proofs.Ends.{after_more}
use Rattle.hub_node.specs.Keeping.{HasKeptOn, StepKeeps}
use Rattle.hub_node.specs.Nodes.{Beginning, Knows, MayHandIn, OwnMeets, Part}

-- each in turn, and one more
pub turn_more : {A : Type 0} (P : List A → A → Type 0) (xs past : List A) (x : A) → EachInTurn P xs past
    → P (appended xs past) x → EachInTurn P (xs ++ x ∷ []) past
turn_more P [] past x h p = (p, tt)
turn_more P (y ∷ xs) past x h p = (h.0, turn_more P xs (y ∷ past) x h.1 p)

-- the first of them
pub turn_front : {A : Type 0} (P : List A → A → Type 0) (xs ys past : List A) → EachInTurn P (xs ++ ys) past
    → EachInTurn P xs past
turn_front P [] ys past h = tt
turn_front P (x ∷ xs) ys past h = (h.0, turn_front P xs ys (x ∷ past) h.1)

-- and the others, behind the first
pub turn_rest : {A : Type 0} (P : List A → A → Type 0) (xs ys past : List A) → EachInTurn P (xs ++ ys) past
    → EachInTurn P ys (appended xs past)
turn_rest P [] ys past h = h
turn_rest P (x ∷ xs) ys past h = turn_rest P xs ys (x ∷ past) h.1

pub turn_as : {A : Type 0} (P Q : List A → A → Type 0) (xs past : List A)
    → ((before : List A) (x : A) → P before x → Q before x)
    → EachInTurn P xs past → EachInTurn Q xs past
turn_as P Q [] past f h = tt
turn_as P Q (x ∷ xs) past f h = (f past x h.0, turn_as P Q xs (x ∷ past) f h.1)

-- what each meets wherever it stands
pub turn_in : {A : Type 0} (P : List A → A → Type 0) (Q : A → Type 0) (xs past : List A) (x : A)
    → ((before : List A) → P before x → Q x) → EachInTurn P xs past → In x xs → Q x
turn_in P Q [] past x f h i = absurd i
turn_in P Q (y ∷ xs) past x f h i = ⊎_elim
    (λ (e : x ≡ y). f past (subst (P past) (sym e) h.0))
    (λ (k : In x xs). turn_in P Q xs (y ∷ past) x f h.1 k)
    i

pub always_before : {A : Type 0} (P : List A → A → Type 0) (xs past : List A) → Always P (appended xs past)
    → Always P past
always_before P [] past h = h
always_before P (x ∷ xs) past h = (always_before P xs (x ∷ past) h).0

-- what later steps take is taken beside
pub taken_more : (xs past : List Step)
    → (zs : List Message) × (messages_taken (appended xs past) ≡ zs ++ messages_taken past)
taken_more [] past = ([], refl)
taken_more (x ∷ xs) past =
    let again = taken_more xs (x ∷ past) in (
      again.0 ++ message_of x.cause,
      again.1 ∙ sym (append_assoc again.0 (message_of x.cause) (messages_taken past)),
    )

abbrev one_if : Bool → ℕ
one_if b = cond b 1 0

pub lapsed_more : (xs past : List Step) → lapses_taken past ≤ lapses_taken (appended xs past)
lapsed_more [] past = omega arith
lapsed_more (x ∷ xs) past =
    let again = lapsed_more xs (x ∷ past) in
    let less = by_test (is_lapse x.cause) in omega arith
  where
    by_test : (b : Bool) → lapses_taken past ≤ one_if b + lapses_taken past
    by_test true = omega arith
    by_test false = omega arith

module _ (run : Beginning) (node : Node) where
  -- a step keeps to more rounds as it did to these
  pub step_later : (r : Round) (past : List Round) (own : List Step) (s : Step) → StepKeeps run node past own s
      → StepKeeps run node (r ∷ past) own s
  step_later r past own s k = record {
    own_is = k.own_is;
    line = k.line;
    awaits = (λ n line flag by is awaits. let told = k.awaits n line flag by is awaits in (told.0, inr told.1, told.2));
    sends = k.sends;
    waits = (λ may n by. let begun = k.waits may n by in (begun.0, inr begun.1, begun.2));
    rests = k.rests;
  }

module _ (tells : Type 0) (part : Part) where
  abbrev P : List Round → List Step → Step → Type 0
  P past own s = StepKeeps part.run part.node past own s

  -- it may hand in the first of what it has made
  pub may_hand_in : (past : List Round) (made : List Step) → HasKeptOn tells part past made [] 0
      → MayHandIn tells part past made
  may_hand_in past made h = record {
    keeps = (λ given. record {
      keeps = record {
        own = (λ s i. turn_in (P past) (λ s. s.node ≡ part.node) made (steps_in past) s
            (λ before k. k.own_is) h.steps i);
        lines = turn_as (P past) (LineGoes (lines_of part.run.script part.node)) made (steps_in past)
            (λ before s k. k.line) h.steps;
        awaits = (λ s i. turn_in (P past) Awaits made (steps_in past) s (λ before k. k.awaits) h.steps i);
        sends = (λ s i. turn_in (P past) Sends made (steps_in past) s (λ before k. k.sends) h.steps i);
        messages = h.messages;
        lapses = (let l : 0 + lapses_taken (appended made (steps_in past)) ≤ lapses_given past = h.lapsed in
            let m : lapses_taken (appended made (steps_in past)) ≤ lapses_given past = omega arith in m);
      };
      waits = (λ may s i. turn_in (P past) Waits made (steps_in past) s (λ before k. k.waits may) h.steps i);
      rests = (λ is. turn_as (P past) (Rests part.run.script) made (steps_in past) (λ before s k. k.rests is) h.steps);
    });
    meets = h.meets;
  }
    where
      Awaits : Step → Type 0
      Awaits s = (n : ℕ) (line : Line) (flag : List ℕ) → s.cause ≡ LineOf n → IsLine part.run.script part.node n line
          → line.deed ≡ Await flag → WasTold past flag

      Sends : Step → Type 0
      Sends s = (m : Message) → In m s.sent → IsFrom part.node m × IsSound part.run.script.roster m

      Waits : Step → Type 0
      Waits s = (n : ℕ) → s.cause ≡ LineOf n → WasBegun past

  -- what was given last is let go
  pub let_go : (past : List Round) (made : List Step) (came : List Message) (lapses : ℕ)
      → HasKeptOn tells part past made came lapses → HasKeptOn tells part past made [] 0
  let_go past made came lapses h = record {
    steps = h.steps;
    all_own = h.all_own;
    messages = end came (messages_taken (appended made (steps_in past))) (messages_given past) h.messages;
    lapsed = (let l = h.lapsed in omega arith);
    meets = h.meets;
  }

  -- the first of what it has made it has kept on with too
  pub front_kept : (past : List Round) (made waiting : List Step) → HasKeptOn tells part past (made ++ waiting) [] 0
      → HasKeptOn tells part past made [] 0
  front_kept past made waiting h =
      let same = after_more made waiting (steps_in past) in
      let own = appended made (steps_in past) in
      let taken = taken_more waiting own in
      let all : Embeds (messages_taken (appended waiting own)) (messages_given past) =
      subst (λ l. Embeds (messages_taken l) (messages_given past)) same h.messages in
      let lapsed : 0 + lapses_taken (appended waiting own) ≤ lapses_given past =
      subst (λ l. 0 + lapses_taken l ≤ lapses_given past) same h.lapsed in
      let fewer = lapsed_more waiting own in record {
        steps = turn_front (P past) made waiting (steps_in past) h.steps;
        all_own = (λ s i. h.all_own s (subst (In s) (sym same) (in_later waiting own s i)));
        messages = end taken.0 (messages_taken own) (messages_given past)
            (subst (λ l. Embeds l (messages_given past)) taken.1 all);
        lapsed = omega arith;
        meets = (λ told. always_before (OwnMeets part.run part.node) waiting own
            (subst (Always (OwnMeets part.run part.node)) same (h.meets told)));
      }
    where
      in_later : (xs past : List Step) (s : Step) → In s past → In s (appended xs past)
      in_later [] past s i = i
      in_later (x ∷ xs) past s i = in_later xs (x ∷ past) s (inr i)

  -- the first were handed in, and something was given
  pub next_round : (past : List Round) (made waiting : List Step) (given : Option Given)
      → HasKeptOn tells part past (made ++ waiting) [] 0
      → HasKeptOn tells part (record { steps = made; given = given } ∷ past) waiting (message_in given) (lapse_in given)
  next_round past made waiting given h =
      let same = after_more made waiting (steps_in past) in
      let r : Round = record { steps = made; given = given } in
      let own = appended made (steps_in past) in
      let all : Embeds (messages_taken (appended waiting own)) (messages_given past) =
      subst (λ l. Embeds (messages_taken l) (messages_given past)) same h.messages in
      let lapsed : 0 + lapses_taken (appended waiting own) ≤ lapses_given past =
      subst (λ l. 0 + lapses_taken l ≤ lapses_given past) same h.lapsed in record {
        steps = turn_as (P past) (P (r ∷ past)) waiting own
            (λ before s k. step_later part.run part.node r past before s k)
            (turn_rest (P past) made waiting (steps_in past) h.steps);
        all_own = (λ s i. h.all_own s (subst (In s) (sym same) i));
        messages = both_front (message_in given) (messages_taken (appended waiting own)) (messages_given past) all;
        lapsed = omega arith;
        meets = (λ told. subst (Always (OwnMeets part.run part.node)) same (h.meets told));
      }

  -- a step more
  module _ (past : List Round) (made : List Step) (s : Step)
      (keeps : StepKeeps part.run part.node past (appended made (steps_in past)) s)
      (meets : Knows tells part.node → OwnMeets part.run part.node (appended made (steps_in past)) s) where
    abbrev own : List Step
    own = appended made (steps_in past)

    same : appended (made ++ s ∷ []) (steps_in past) ≡ s ∷ own
    same = after_more made (s ∷ []) (steps_in past)

    with_step : (came rest : List Message) (lapses less : ℕ) → HasKeptOn tells part past made came lapses
        → Embeds (rest ++ (message_of s.cause ++ messages_taken own)) (messages_given past)
        → less + (one_if (is_lapse s.cause) + lapses_taken own) ≤ lapses_given past
        → HasKeptOn tells part past (made ++ s ∷ []) rest less
    with_step came rest lapses less h taken lapsed = record {
      steps = turn_more (P past) made (steps_in past) s h.steps keeps;
      all_own = (λ x i. ⊎_elim
          (λ (e : x ≡ s). ap (λ (y : Step). y.node) e ∙ keeps.own_is)
          (λ (k : In x own). h.all_own x k)
          (subst (In x) same i));
      messages = subst (λ l. Embeds (rest ++ messages_taken l) (messages_given past)) (sym same) taken;
      lapsed = subst (λ l. less + lapses_taken l ≤ lapses_given past) (sym same) lapsed;
      meets = (λ told. subst (Always (OwnMeets part.run part.node)) (sym same) (h.meets told, meets told));
    }

    -- by itself
    pub push_own : (came : List Message) (lapses : ℕ) → message_of s.cause ≡ [] → is_lapse s.cause ≡ false
        → HasKeptOn tells part past made came lapses → HasKeptOn tells part past (made ++ s ∷ []) came lapses
    push_own came lapses no_message no_lapse h =
        let l = h.lapsed in
        let zero : one_if (is_lapse s.cause) ≡ 0 = ap one_if no_lapse in
        with_step came came lapses lapses h
        (subst (λ x. Embeds (came ++ (x ++ messages_taken own)) (messages_given past)) (sym no_message) h.messages)
        (omega arith)

    -- by the message that was given
    pub push_message : (m : Message) (lapses : ℕ) → s.cause ≡ CameBy m → HasKeptOn tells part past made (m ∷ []) lapses
        → HasKeptOn tells part past (made ++ s ∷ []) [] 0
    push_message m lapses by h =
        let l = h.lapsed in
        let zero : one_if (is_lapse s.cause) ≡ 0 = ap (λ c. one_if (is_lapse c)) by in
        with_step (m ∷ []) [] lapses 0 h
        (subst (λ c. Embeds (message_of c ++ messages_taken own) (messages_given past)) (sym by) h.messages)
        (omega arith)

    -- by the lapse that was given
    pub push_lapse : s.cause ≡ Lapse → HasKeptOn tells part past made [] 1
        → HasKeptOn tells part past (made ++ s ∷ []) [] 0
    push_lapse by h =
        let l = h.lapsed in
        let one : one_if (is_lapse s.cause) ≡ 1 = ap (λ c. one_if (is_lapse c)) by in
        with_step [] [] 1 0 h
        (subst (λ c. Embeds (message_of c ++ messages_taken own) (messages_given past)) (sym by) h.messages)
        (omega arith)
