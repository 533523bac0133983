-- The small run stands at a hub that was closed.
use Rattle.std.proofs.Common.{◌≡◌, inl, inr, Bool, true, false, cond, List, [], ◌∷◌, ◌++◌, map, Option, refl, sym, ap}
use Rattle.std.proofs.Common.{◌∙◌, subst, arith, append_assoc}
use Rattle.std.proofs.lemmas.List.{append-nil}
use Rattle.std.proofs.lemmas.List.Elements.{All-map}
use Rattle.base_types.specs.declared.ids.Node.{Node}
use Rattle.base_types.specs.declared.ids.Node.TheVariants.{Host, Server}
use Rattle.script_lines.specs.Sound.{same_node}
use Rattle.hub_cell.specs.Lists.{IsPrefix, IsShuffle}
use Rattle.hub_cell.specs.Passes.{TableId}
use Rattle.run_tokens.specs.JournalWorked.{script}
use Rattle.run_rules.specs.Past.{EachInTurn, In, appended}
use Rattle.run_tokens.specs.Worked.{client, site_one}
use Rattle.hub_board.specs.Follows.{setup_node}
use Rattle.hub_board.specs.Hubs.{AreGiven, Hubbed, after as after_turns, first_hub, gift_for, nodes_of, with_steps}
use Rattle.hub_board.specs.Hubs.{with_turn}
use Rattle.hub_board.specs.Turning.{Posted, entered}
use Rattle.hub_board.specs.declared.given.Given.{Given}
use Rattle.hub_board.specs.declared.given.Turn.{Turn}
use Rattle.hub_turns.specs.Meetings.{HasEnded, HasPassed, IsRefused, turns_of}
use Rattle.hub_turns.specs.Views.{HubView, NodeView}
use Rattle.hub_laws.specs.Example.{turns}
use Rattle.hub_laws.specs.Keeping.{Keeps, Round, gave, round_of, rounds_of, steps_in}
use Rattle.hub_laws.proofs.Kept.{a_run_is_kept}
use Rattle.hub_laws.proofs.Members.{in_map}
use Rattle.hub_laws.proofs.Nodes.{node_same, node_self}
use Rattle.hub_laws.proofs.Whole.{always_after}
use Rattle.hub_laws.specs.Beginnings.{Rests, Waits}
use Rattle.hub_laws.specs.Closings.{HasKept, HasMade, KeepsOn}
use Rattle.hub_laws.specs.ClosedExample.{ExampleIsClosed, hub, pass, passes}
use Rattle.hub_laws.proofs.Apart.{nodes_are_apart}
use Rattle.hub_laws.proofs.Passing.{made_goes_on, made_stays}

given_more : (first : Hubbed) (xs : List Turn) (t : Turn) → AreGiven first xs
    → t.gift ≡ gift_for (with_steps (after_turns first xs) t.node t.steps) t.node → AreGiven first (xs ++ t ∷ [])
given_more first [] t h g = (g, tt)
given_more first (x ∷ xs) t h g = (h.0, given_more (with_turn first x) xs t h.1 g)

after_last : (first : Hubbed) (xs : List Turn) (t : Turn)
    → after_turns first (xs ++ t ∷ []) ≡ with_turn (after_turns first xs) t
after_last first [] t = refl
after_last first (x ∷ xs) t = after_last (with_turn first x) xs t

turns_last : (n : Node) (xs : List Turn) (t : Turn)
    → turns_of n (xs ++ t ∷ []) ≡ turns_of n xs ++ cond (same_node t.node n) (t ∷ []) []
turns_last n [] t = refl
turns_last n (x ∷ xs) t = by_test (same_node x.node n) (turns_last n xs t)
  where
    by_test : (b : Bool) → turns_of n (xs ++ t ∷ []) ≡ turns_of n xs ++ cond (same_node t.node n) (t ∷ []) []
        → cond b (x ∷ turns_of n (xs ++ t ∷ [])) (turns_of n (xs ++ t ∷ []))
        ≡ cond b (x ∷ turns_of n xs) (turns_of n xs) ++ cond (same_node t.node n) (t ∷ []) []
    by_test true e = ap (λ l. x ∷ l) e
    by_test false e = e

-- a turn that leaves an entry
abbrev LeavesOne : Turn → Type 0
LeavesOne t = entered t.node t.steps t.gift ≡ t ∷ []

abbrev AllLeave : List Turn → Type 0
AllLeave [] = Unit {0}
AllLeave (t ∷ turns) = LeavesOne t × AllLeave turns

module _ (hub : HubView) where
  -- the pass of a node when the list was so
  abbrev at_list : Node → List Turn → NodeView
  at_list node xs = record { node = node; hub = hub.id; seen = xs; made = turns_of node xs }

  abbrev posted_at : List Turn → Posted
  posted_at xs = record { turns = xs; hub = after_turns hub.first xs; spare = 0 }

  abbrev GivesAt : List Turn → Turn → Type 0
  GivesAt xs t = t.gift ≡ gift_for (with_steps (after_turns hub.first xs) t.node t.steps) t.node

  own_turn : (xs : List Turn) (t : Turn) → AreGiven hub.first xs → GivesAt xs t → LeavesOne t
      → HasPassed hub (at_list t.node xs) (at_list t.node (xs ++ t ∷ [])) t.steps (gave (after_turns hub.first xs) t)
  own_turn xs t h g one = record {
    before = posted_at xs;
    now = posted_at (xs ++ t ∷ []);
    known = ([], sym (append-nil xs));
    was = record { hub = refl; given = h };
    is = record { hub = refl; given = given_more hub.first xs t h g };
    turned = record {
      gift_is = t.gift;
      first = g;
      turns = ap (λ l. xs ++ l) (sym one);
      hub = after_last hub.first xs t;
      given_is = refl;
    };
    pass_is = ap (λ l. let p : NodeView = record { node = t.node; hub = hub.id; seen = xs ++ t ∷ []; made = l } in p)
        (turns_last t.node xs t ∙ ap (λ b. turns_of t.node xs ++ cond b (t ∷ []) []) (node_self t.node)
        ∙ ap (λ l. turns_of t.node xs ++ l) (sym one));
  }

  other_turn : (node : Node) (xs : List Turn) (t : Turn) → same_node t.node node ≡ false
      → IsRefused (at_list node xs) (at_list node (xs ++ t ∷ []))
  other_turn node xs t e = record {
    known = (t ∷ [], refl);
    pass_is = ap (λ l. let p : NodeView = record { node = node; hub = hub.id; seen = xs ++ t ∷ []; made = l } in p)
        (turns_last node xs t ∙ ap (λ b. turns_of node xs ++ cond b (t ∷ []) []) e ∙ append-nil (turns_of node xs));
  }

  -- what was made through a pass, turn by turn
  made_by : (node : Node) (ts xs : List Turn) (rounds : List Round) → HasMade hub rounds (at_list node xs)
      → AreGiven hub.first xs → AreGiven (after_turns hub.first xs) ts → AllLeave ts
      → HasMade hub (appended (rounds_of (after_turns hub.first xs) node ts) rounds) (at_list node (xs ++ ts))
  made_by node [] xs rounds h was given all = subst (λ l. HasMade hub rounds (at_list node l)) (sym (append-nil xs)) h
  made_by node (t ∷ ts) xs rounds h was given all =
      by_test (same_node t.node node) refl (λ more k.
      subst (λ l. HasMade hub (appended (rounds_of now node ts) more) (at_list node l)) (append_assoc xs (t ∷ []) ts)
      (subst (λ first. HasMade hub (appended (rounds_of first node ts) more) (at_list node ((xs ++ t ∷ []) ++ ts))) is
      (made_by node ts (xs ++ t ∷ []) more k (given_more hub.first xs t was given.0)
      (subst (λ first. AreGiven first ts) (sym is) given.1) all.1)))
    where
      now : Hubbed
      now = with_turn (after_turns hub.first xs) t

      is : after_turns hub.first (xs ++ t ∷ []) ≡ now
      is = after_last hub.first xs t

      by_test : (b : Bool) → same_node t.node node ≡ b
          → ((more : List Round) → HasMade hub more (at_list node (xs ++ t ∷ []))
          → HasMade hub (appended (rounds_of now node ts) more) (at_list node (xs ++ t ∷ ts)))
          → HasMade hub (appended (cond b (round_of (after_turns hub.first xs) t ∷ rounds_of now node ts)
          (rounds_of now node ts)) rounds)
          (at_list node (xs ++ t ∷ ts))
      by_test true e again =
          again (round_of (after_turns hub.first xs) t ∷ rounds)
          (made_goes_on hub rounds (at_list node xs) (at_list node (xs ++ t ∷ []))
          (round_of (after_turns hub.first xs) t) h
          (subst (λ n. HasPassed hub (at_list n xs) (at_list n (xs ++ t ∷ [])) t.steps
          (gave (after_turns hub.first xs) t))
          (node_same t.node node e) (own_turn xs t was given.0 all.0)))
      by_test false e again =
          again rounds (made_stays hub rounds (at_list node xs) (at_list node (xs ++ t ∷ [])) h
          (other_turn node xs t e))

-- beside what its turns keep to
record Beside (node : Node) (past : List Round) (now : Round) : Type 0 where
  pub waits : Waits node past now
  pub rests : same_node node setup_node ≡ true → EachInTurn (Rests script) now.steps (steps_in past)

keeps_beside : (node : Node) (rounds past : List Round) → EachInTurn (Keeps script node) rounds past
    → EachInTurn (Beside node) rounds past → EachInTurn (KeepsOn script node) rounds past
keeps_beside node [] past h k = tt
keeps_beside node (r ∷ rounds) past h k = (
  record { keeps = h.0; waits = k.0.waits; rests = k.0.rests },
  keeps_beside node rounds (r ∷ past) h.1 k.1,
)

nothing_in : (node : Node) (past : List Round) (given : Option Given)
    → Beside node past (record { steps = []; given = given })
nothing_in node past given = record { waits = λ may s i n c. absurd i; rests = λ same. tt }

setup_beside : EachInTurn (Beside setup_node) (rounds_of (first_hub script []) setup_node turns) []
setup_beside = tt

client_beside : EachInTurn (Beside (Host client)) (rounds_of (first_hub script []) (Host client) turns) []
client_beside = (
  nothing_in (Host client) [] _,
  (
    record { waits = λ may s i n c. (_, inl refl, refl); rests = λ same. absurd (cc) },
    (nothing_in (Host client) _ _, tt),
  ),
)

server_beside : EachInTurn (Beside (Server site_one)) (rounds_of (first_hub script []) (Server site_one) turns) []
server_beside = (
  nothing_in (Server site_one) [] _,
  (record { waits = λ may s i n c. absurd (cc); rests = λ same. absurd (cc) }, tt),
)

all_leave : AllLeave turns
all_leave = (refl, (refl, (refl, (refl, (refl, tt)))))

module _ (id : TableId) where
  kept_by : (node : Node) → EachInTurn (Beside node) (rounds_of (first_hub script []) node turns) []
      → HasKept script (hub id) (pass id node)
  kept_by node beside =
      let rounds = rounds_of (first_hub script []) node turns in (
        appended rounds [],
        made_by (hub id) node turns [] [] refl tt a_run_is_kept.given all_leave,
        always_after (KeepsOn script node) rounds [] tt
            (keeps_beside node rounds [] (a_run_is_kept.nodes node) beside),
      )

  by_node : (node : Node) → In node (nodes_of script)
      → EachInTurn (Beside node) (rounds_of (first_hub script []) node turns) []
  by_node node (inl e) =
      subst (λ n. EachInTurn (Beside n) (rounds_of (first_hub script []) n turns) []) (sym e) setup_beside
  by_node node (inr (inl e)) =
      subst (λ n. EachInTurn (Beside n) (rounds_of (first_hub script []) n turns) []) (sym e) client_beside
  by_node node (inr (inr (inl e))) =
      subst (λ n. EachInTurn (Beside n) (rounds_of (first_hub script []) n turns) []) (sym e) server_beside
  by_node node (inr (inr (inr e))) = absurd e

  middle_in : (earlier later : List NodeView) (p : NodeView) → In p (earlier ++ p ∷ later)
  middle_in [] later p = inl refl
  middle_in (q ∷ earlier) later p = inr (middle_in earlier later p)

  own_made : (p : NodeView) → In p (passes id) → turns_of p.node turns ≡ p.made
  own_made p i =
      let n = in_map (pass id) p (nodes_of script) i in
      ap (λ (q : NodeView). turns_of q.node turns) n.2 ∙ sym (ap (λ (q : NodeView). q.made) n.2)

  ended : HasEnded (hub id) turns (passes id)
  ended = record {
    board = record { turns = turns; hub = after_turns (first_hub script []) turns; spare = 0 };
    list = refl;
    whole = record { hub = refl; given = a_run_is_kept.given };
    made = shuffled;
    seen = All-map (λ (p : NodeView). IsPrefix p.seen turns) (pass id) (nodes_of script)
        (λ k d lt. ([], sym (append-nil turns)));
    own = (λ earlier later p e others. own_made p (subst (In p) (sym e) (middle_in earlier later p)));
  }
    where
      shuffled : IsShuffle turns (map (λ (p : NodeView). p.made) (passes id))
      shuffled = (
        turns,
        inr (_, refl, inr (_, refl, inr (_, refl, inr (_, refl, inr (_, refl, (refl, refl)))))),
        (
          turns_of (Server site_one) turns,
          inl (_, refl, inl (_, refl, inr (_, refl, inr (_, refl, inl (_, refl, (refl, refl)))))),
          ([], inl (_, refl, inl (_, refl, (refl, refl))), refl),
        ),
      )

pub example_is_closed : ExampleIsClosed
example_is_closed id = record {
  first = refl;
  ended = ended id;
  apart = nodes_are_apart script;
  kept = (λ p i.
      let n = in_map (pass id) p (nodes_of script) i in
      subst (HasKept script (hub id)) (sym n.2) (kept_by id n.0 (by_node id n.0 n.1)));
  steps = refl;
  due = a_run_is_kept.due;
  few = omega arith;
}
