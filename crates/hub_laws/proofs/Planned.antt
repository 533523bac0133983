-- A journal of a board keeps to the plan of its script.
use Rattle.std.proofs.Common.{◌≡◌, ⊎_elim, inl, inr, ℕ, ◌+◌, ◌≤◌, Some, Bool, true, false, cond, List, [], ◌∷◌, ◌++◌}
use Rattle.std.proofs.Common.{map, filter, refl, sym, ap, ◌∙◌, subst, arith}
use Rattle.std.specs.List.{flat_map}
use Rattle.std.proofs.lemmas.List.{append-nil}
use Rattle.std.proofs.lemmas.List.Concat.{flat_map-append}
use Rattle.base_types.specs.declared.ids.Node.{Node}
use Rattle.base_types.specs.declared.ids.Node.TheVariants.{Server}
use Rattle.base_types.specs.declared.ids.ServerId.{ServerId}
use Rattle.message_types.specs.declared.message.Message.{Message}
use Rattle.script_lines.specs.Sound.{same_node}
use Rattle.script_lines.specs.declared.script.Script.{Script}
use Rattle.run_rules.specs.Past.{EachInTurn, In, Once, appended}
use Rattle.run_rules.specs.Plans.{Copy, CountIs, KeepsPlan, MayCome, Posting, copies_of, due_first, posted, resender}
use Rattle.run_rules.specs.Plans.{sent_in}
use Rattle.run_rules.specs.Runs.{IsRaised}
use Rattle.run_rules.specs.declared.step.Cause.TheVariants.{Message as CameBy, Lapse as LapsesBy}
use Rattle.run_rules.specs.declared.step.Step.{Step}
use Rattle.run_rules.specs.declared.fate.Fate.TheVariants.{Lost}
use Rattle.hub_wire.specs.Laws.{all_sent, with_steps}
use Rattle.hub_wire.specs.Networks.{Network, fresh, with_step}
use Rattle.hub_wire.specs.declared.packet.Packet.{Packet}
use Rattle.hub_board.specs.Hubs.{AreGiven, Hubbed, flagged, flags_of, gift_for, with_sent, with_steps as with_handed}
use Rattle.hub_board.specs.Hubs.{with_turn}
use Rattle.hub_board.specs.Turning.{steps_of}
use Rattle.hub_board.specs.declared.given.Given.TheVariants.{Message as Came}
use Rattle.hub_board.specs.declared.given.Turn.{Turn}
use Rattle.tree_answers.specs.declared.tree.Tree.{Tree}
use Rattle.hub_laws.specs.Keeping.{Keeps, Round, gave, lapse_in, lapses_given, lapses_taken, message_in, message_of}
use Rattle.hub_laws.specs.Keeping.{messages_given, messages_taken, round_of, rounds_of, steps_in}
use Rattle.hub_laws.proofs.Boards.{BoardRaises, GivesSent}
use Rattle.hub_laws.specs.Taking.{Embeds}
use Rattle.hub_laws.proofs.Embeds.{both_front, later_all}
use Rattle.hub_laws.proofs.Fitting.{all_net, copies_fit, lapses_fit, taken_sent}
use Rattle.hub_laws.proofs.Members.{embeds_in, in_append, in_front}
use Rattle.hub_laws.proofs.Gifts.{Gives, gives, lapses_to, messages}
use Rattle.hub_laws.proofs.Nets.{AreOut, Goes, flagged_more, flagged_step, raises, sends, steps_more}
use Rattle.hub_laws.proofs.Nodes.{node_same, node_self}
use Rattle.hub_laws.proofs.Rounds.{AllPass, is_to, lapses_end, lapses_mine, lapses_of, lapses_others, mine_more}
use Rattle.hub_laws.proofs.Rounds.{others_more, pass_append, pass_front, pass_part, taken_part}

-- what steps sent, step by step
abbrev pub sents : List Step → List (List Message)
sents [] = []
sents (s ∷ past) = sents past ++ s.sent ∷ []

pub sents_all : (past : List Step) → all_sent (sents past) ≡ sent_in past
sents_all [] = refl
sents_all (s ∷ past) =
    flat_map-append (λ (x : List Message). x) (sents past) (s.sent ∷ [])
    ∙ ap (λ l. l ++ (s.sent ++ [])) (sents_all past) ∙ ap (λ l. sent_in past ++ l) (append-nil s.sent)

-- what once was so was so later, too
pub once_after : {A : Type 0} (P : List A → A → Type 0) (xs past : List A) → Once P past → Once P (appended xs past)
once_after P [] past h = h
once_after P (x ∷ xs) past h = once_after P xs (x ∷ past) (inr h)

pub each_append : {A : Type 0} (P : List A → A → Type 0) (xs ys past : List A) → EachInTurn P xs past → EachInTurn P
    ys (appended xs past)
    → EachInTurn P (xs ++ ys) past
each_append P [] ys past h k = k
each_append P (x ∷ xs) ys past h k = (h.0, each_append P xs ys (x ∷ past) h.1 k)

-- a node knows its own turn
abbrev pub known : Node → Round → (Node → List Round) → Node → List Round
known r round own n = cond (same_node r n) (round ∷ own n) (own n)

pub each_on : (P : List Round → Round → Type 0) (b : Bool) (round : Round) (rest past : List Round)
    → EachInTurn P (cond b (round ∷ rest) rest) past → EachInTurn P rest (cond b (round ∷ past) past)
each_on P true round rest past k = k.1
each_on P false round rest past k = k

-- so it was at the turn of the node itself
pub each_now : (P : List Round → Round → Type 0) (r : Node) (round : Round) (rest past : List Round)
    → EachInTurn P (cond (same_node r r) (round ∷ rest) rest) past → P past round
each_now P r round rest past k =
    let mine : EachInTurn P (round ∷ rest) past = subst (λ b. EachInTurn P (cond b (round ∷ rest) rest) past)
    (node_self r) k in mine.0

-- a step keeps to the plan, and its cause was sent, to its node
pub record StepFits (script : Script) (start : List Tree) (past : List Step) (s : Step) : Type 0 where
  pub plan : KeepsPlan script start past s
  pub cause : (m : Message) → s.cause ≡ CameBy m → (is_to s.node m ≡ true) × In m (sent_in past)

module _ (script : Script) (start : List Tree) (rooms : List ServerId)
    (few : (r : Node) → lapses_to r (map Server rooms) ≤ due_first start r) where
  all_after : (flags : List (List ℕ)) (past : List Step) (s : Step)
      → all_net script rooms flags (sents (s ∷ past)) ≡ with_step (all_net script rooms flags (sents past)) s.sent
  all_after flags past s =
      ap (flagged flags) (steps_more (fresh script rooms) (sents past) s.sent)
      ∙ flagged_step flags (with_steps (fresh script rooms) (sents past)) s.sent

  -- what stays while a node's steps are handed in
  module _ (r : Node) (given : List Message) (flags : List (List ℕ)) (taken : List Packet) (lapsed : List Node)
      (out : AreOut taken) (some : Embeds given (messages taken)) (to : AllPass (is_to r) given) where
    record Hands (past own : List Step) (net : Network) : Type 0 where
      net_is : Goes (all_net script rooms flags (sents past)) net taken lapsed
      raised : (flag : List ℕ) → In flag flags → IsRaised script past flag
      mine : filter (is_to r) (messages_taken past) ≡ messages_taken own
      lapsing : lapses_of r past ≡ lapses_taken own

    hands_more : (past own : List Step) (net : Network) (s : Step) → Hands past own net → s.node ≡ r
        → Embeds (messages_taken (s ∷ own)) given → Hands (s ∷ past) (s ∷ own) (with_step net s.sent)
    hands_more past own net s h node e = record {
      net_is = subst (λ all. Goes all (with_step net s.sent) taken lapsed) (sym (all_after flags past s))
          (sends (all_net script rooms flags (sents past)) net taken lapsed s.sent h.net_is);
      raised = (λ flag i. inr (h.raised flag i));
      mine = mine_more r (s ∷ []) past own h.mine (pass_part (is_to r) (messages_taken (s ∷ own)) given e to);
      lapsing = lapses_mine r (s ∷ []) past own
          (λ x i. ⊎_elim (λ (same : x ≡ s). ap (λ (y : Step). y.node) same ∙ node) (λ (no : ⊥). absurd no) i) h.lapsing;
    }

    keeps_plan : (past own : List Step) (net : Network) (s : Step) → Hands past own net → s.node ≡ r
        → Embeds (messages_taken (s ∷ own)) given → lapses_taken (s ∷ own) ≤ lapses_to r lapsed
        → KeepsPlan script start past s
    keeps_plan past own net s h node e fits =
        let then = hands_more past own net s h node e in
        let all = sym (sents_all past) in
        record {
          copies = (λ m n k cause c d.
              let first : AllPass (is_to r) (message_of s.cause) =
              pass_front (is_to r) (message_of s.cause) (messages_taken own)
              (pass_part (is_to r) (messages_taken (s ∷ own)) given e to) in
              let one = subst (λ x. AllPass (is_to r) (message_of x)) cause first in
              copies_fit script rooms flags (sents past) past h.raised net taken lapsed h.net_is out r given some
              (s ∷ past) (s ∷ own) e then.mine m one.0 n k c
              (subst (λ ms. CountIs (λ (x : Copy). (x.message ≡ m) × MayCome script past x.way)
              (flat_map copies_of (posted script ms)) k) all d));
          lapses = (λ n k cause c d.
              let c' = subst (λ x. CountIs (λ (t : Step). (t.node ≡ x) × (t.cause ≡ LapsesBy)) (s ∷ past) n) node c in
              let d' = subst (λ x. CountIs (λ (p : Posting). (p.fate ≡ Lost) × (resender p.message ≡ x))
              (posted script (sent_in past)) k) node d in
              let d'' = subst (λ ms. CountIs (λ (p : Posting). (p.fate ≡ Lost) × (resender p.message ≡ r))
              (posted script ms) k) all d' in
              let all_fit = lapses_fit script rooms flags (sents past) net taken lapsed h.net_is r (s ∷ past) (s ∷ own)
              then.lapsing fits n k c' d'' in
              let room = few r in
              subst (λ x. n ≤ due_first start x + k) (sym node) (omega arith));
        }

    step_fits : (past own : List Step) (net : Network) (s : Step) → Hands past own net → s.node ≡ r
        → Embeds (messages_taken (s ∷ own)) given → lapses_taken (s ∷ own) ≤ lapses_to r lapsed
        → StepFits script start past s
    step_fits past own net s h node e fits = record {
      plan = keeps_plan past own net s h node e fits;
      cause = (λ m cause.
          let first : AllPass (is_to r) (message_of s.cause) =
          pass_front (is_to r) (message_of s.cause) (messages_taken own)
          (pass_part (is_to r) (messages_taken (s ∷ own)) given e to) in
          let one = subst (λ x. AllPass (is_to r) (message_of x)) cause first in
          let here : In m (message_of s.cause) = subst (λ x. In m (message_of x)) (sym cause) (inl refl) in
          let came = embeds_in given (messages taken) m some
          (embeds_in (messages_taken (s ∷ own)) given m e (in_front m (message_of s.cause) (messages_taken own)
          here)) in (
            ap (λ n. is_to n m) node ∙ one.0,
            subst (In m) (sents_all past)
                (taken_sent script rooms flags (sents past) net taken lapsed h.net_is m came),
          ));
    }

    hands_all : (xs past own : List Step) (net : Network) → Hands past own net → ((s : Step) → In s xs → s.node ≡ r)
        → Embeds (messages_taken (appended xs own)) given → lapses_taken (appended xs own) ≤ lapses_to r lapsed
        → EachInTurn (StepFits script start) xs past × Hands (appended xs past) (appended xs own) (with_sent net xs)
    hands_all [] past own net h node e fits = (tt, h)
    hands_all (s ∷ xs) past own net h node e fits =
        let e' = taken_part xs (s ∷ own) given e in
        let l = lapses_end xs (s ∷ own) in
        let fits' : lapses_taken (s ∷ own) ≤ lapses_to r lapsed = omega arith in
        let mine = node s (inl refl) in
        let i = hands_all xs (s ∷ past) (s ∷ own) (with_step net s.sent) (hands_more past own net s h mine e')
        (λ x k. node x (inr k)) e fits in
        ((step_fits past own net s h mine e' fits', i.0), i.1)

  -- what stays from turn to turn
  pub record Stands (hub : Hubbed) (past : List Step) (own : Node → List Round) (flags : List (List ℕ))
      (taken : List Packet) (lapsed : List Node) : Type 0 where
    pub net : Goes (all_net script rooms flags (sents past)) hub.net taken lapsed
    pub out : AreOut taken
    pub raised : (flag : List ℕ) → In flag flags → IsRaised script past flag
    pub given : (n : Node) → Embeds (messages_given (own n)) (messages taken)
    pub to : (n : Node) → AllPass (is_to n) (messages_given (own n))
    pub mine : (n : Node) → filter (is_to n) (messages_taken past) ≡ messages_taken (steps_in (own n))
    pub lapses : (n : Node) → lapses_given (own n) ≤ lapses_to n lapsed
    pub lapsing : (n : Node) → lapses_of n past ≡ lapses_taken (steps_in (own n))

  module _ (hub : Hubbed) (past : List Step) (own : Node → List Round) (flags : List (List ℕ)) (taken : List Packet)
      (lapsed : List Node) (h : Stands hub past own flags taken lapsed) (t : Turn) where
    abbrev round : Round
    round = round_of hub t

    abbrev later : List Step
    later = appended t.steps past

    abbrev more_flags : List (List ℕ)
    more_flags = flags ++ flags_of hub t.node t.steps

    abbrev handed : Hubbed
    handed = with_handed hub t.node t.steps

    module _ (k : Keeps script t.node (own t.node) round) where
      hands : EachInTurn (StepFits script start) t.steps past
          × Hands t.node (messages_given (own t.node)) flags taken lapsed h.out (h.given t.node) (h.to t.node) later
          (appended t.steps (steps_in (own t.node))) (with_sent hub.net t.steps)
      hands =
          let few_lapses = k.lapses in let room = h.lapses t.node in
          hands_all t.node (messages_given (own t.node)) flags taken lapsed h.out (h.given t.node) (h.to t.node) t.steps
          past (steps_in (own t.node)) hub.net
          (record { net_is = h.net; raised = h.raised; mine = h.mine t.node; lapsing = h.lapsing t.node })
          k.own k.messages (omega arith)

      -- after the flags that the steps raise
      net_then : Goes (all_net script rooms more_flags (sents later)) handed.net taken lapsed
      net_then =
          let fs = flags_of hub t.node t.steps in
          subst (λ all. Goes all handed.net taken lapsed)
          (sym (flagged_more flags fs (with_steps (fresh script rooms) (sents later))))
          (raises fs (all_net script rooms flags (sents later)) (with_sent hub.net t.steps) taken lapsed h.out
          hands.1.net_is)

      module _ (gift : t.gift ≡ gift_for handed t.node) where
        given_then : Gives (all_net script rooms more_flags (sents later)) (with_turn hub t).net t.node round.given
            taken lapsed
        given_then = gives handed t.node (all_net script rooms more_flags (sents later)) taken lapsed net_then h.out
            t.gift gift

        module _ (raised : (flag : List ℕ) → In flag (flags_of hub t.node t.steps) → IsRaised script later flag) where
          abbrev g : Gives (all_net script rooms more_flags (sents later)) (with_turn hub t).net t.node round.given
              taken lapsed
          g = given_then

          all_mine : AllPass (is_to t.node) (messages_taken (appended t.steps (steps_in (own t.node))))
          all_mine = pass_part (is_to t.node) (messages_taken (appended t.steps (steps_in (own t.node))))
              (messages_given (own t.node)) k.messages (h.to t.node)

          given_by : (n : Node) (b : Bool) → Embeds (messages_given (cond b (round ∷ own n) (own n)))
              (messages g.taken_then)
          given_by n true = subst (Embeds (messages_given (round ∷ own n))) (sym g.came)
              (both_front (message_in round.given) (messages_given (own n)) (messages taken) (h.given n))
          given_by n false = subst (Embeds (messages_given (own n))) (sym g.came)
              (later_all (message_in round.given) (messages_given (own n)) (messages taken) (h.given n))

          to_by : (n : Node) (b : Bool) → same_node t.node n ≡ b
              → AllPass (is_to n) (messages_given (cond b (round ∷ own n) (own n)))
          to_by n true e = pass_append (is_to n) (message_in round.given) (messages_given (own n))
              (subst (λ x. AllPass (is_to x) (message_in round.given)) (node_same t.node n e) g.to) (h.to n)
          to_by n false e = h.to n

          mine_by : (n : Node) (b : Bool) → same_node t.node n ≡ b
              → filter (is_to n) (messages_taken later) ≡ messages_taken (steps_in (cond b (round ∷ own n) (own n)))
          mine_by n true e =
              subst (λ x. filter (is_to x) (messages_taken later) ≡ messages_taken
              (appended t.steps (steps_in (own x))))
              (node_same t.node n e)
              (mine_more t.node t.steps past (steps_in (own t.node)) (h.mine t.node) all_mine)
          mine_by n false e =
              others_more t.node n t.steps past (steps_in (own t.node)) e all_mine ∙ h.mine n

          lapses_by : (n : Node) (b : Bool) → same_node t.node n ≡ b
              → lapses_given (cond b (round ∷ own n) (own n)) ≤ lapses_to n g.lapsed_then
          lapses_by n true e =
              let a = g.lapses n in let c = h.lapses n in
              let b = ap (λ x. cond x (lapse_in round.given) 0) e in omega arith
          lapses_by n false e = let a = g.lapses n in let c = h.lapses n in
              let b = ap (λ x. cond x (lapse_in round.given) 0) e in omega arith

          lapsing_by : (n : Node) (b : Bool) → same_node t.node n ≡ b
              → lapses_of n later ≡ lapses_taken (steps_in (cond b (round ∷ own n) (own n)))
          lapsing_by n true e =
              subst (λ x. lapses_of x later ≡ lapses_taken (appended t.steps (steps_in (own x)))) (node_same t.node n e)
              (lapses_mine t.node t.steps past (steps_in (own t.node)) k.own (h.lapsing t.node))
          lapsing_by n false e = lapses_others t.node n t.steps past k.own e ∙ h.lapsing n

          stands_then : Stands (with_turn hub t) later (known t.node round own) more_flags g.taken_then g.lapsed_then
          stands_then = record {
            net = g.goes;
            out = g.out;
            raised = (λ flag i. ⊎_elim
                (λ (a : In flag flags). once_after _ t.steps past (h.raised flag a))
                (λ (b : In flag (flags_of hub t.node t.steps)). raised flag b)
                (in_append flag flags (flags_of hub t.node t.steps) i));
            given = (λ n. given_by n (same_node t.node n));
            to = (λ n. to_by n (same_node t.node n) refl);
            mine = (λ n. mine_by n (same_node t.node n) refl);
            lapses = (λ n. lapses_by n (same_node t.node n) refl);
            lapsing = (λ n. lapsing_by n (same_node t.node n) refl);
          }

        -- a message that is then given was sent
        gave_sent : (m : Message) → gave hub t ≡ Some (Came m) → In m (sent_in later)
        gave_sent m e =
            let g = given_then in
            let here : In m (message_in (gave hub t)) = subst (λ o. In m (message_in o)) (sym e) (inl refl) in
            subst (In m) (sents_all later)
            (taken_sent script rooms more_flags (sents later) (with_turn hub t).net g.taken_then g.lapsed_then g.goes m
            (subst (In m) (sym g.came) (in_front m (message_in (gave hub t)) (messages taken) here)))

  pub planned_from : (turns : List Turn) (hub : Hubbed) (past : List Step) (own : Node → List Round)
      (flags : List (List ℕ))
      (taken : List Packet) (lapsed : List Node) → Stands hub past own flags taken lapsed → AreGiven hub turns
      → ((n : Node) → EachInTurn (Keeps script n) (rounds_of hub n turns) (own n)) → BoardRaises script hub turns past
      → EachInTurn (StepFits script start) (steps_of turns) past × GivesSent hub turns past
  planned_from [] hub past own flags taken lapsed h given keeps raises = (tt, tt)
  planned_from (t ∷ turns) hub past own flags taken lapsed h given keeps raises =
      let round = round_of hub t in
      let rest = rounds_of (with_turn hub t) t.node turns in
      let k = each_now (Keeps script t.node) t.node round rest (own t.node) (keeps t.node) in
      let again = planned_from turns (with_turn hub t) (appended t.steps past) (known t.node round own)
      (flags ++ flags_of hub t.node t.steps) _ _
      (stands_then hub past own flags taken lapsed h t k given.0 raises.0) given.1
      (λ n. each_on (Keeps script n) (same_node t.node n) round (rounds_of (with_turn hub t) n turns) (own n) (keeps n))
      raises.1 in (
        each_append (StepFits script start) t.steps (steps_of turns) past
            (hands hub past own flags taken lapsed h t k).0 again.0,
        (gave_sent hub past own flags taken lapsed h t k given.0, again.1),
      )
