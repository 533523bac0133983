-- One turn of a node.
use Rattle.std.proofs.Common.{◌≡◌, ℕ, Bool, true, false, ◌&&◌, List, [], ◌∷◌, Option, None, Some, refl, sym, ap, ◌∙◌}
use Rattle.std.proofs.Common.{subst}
use Rattle.std.proofs.lemmas.List.{append-nil}
use Rattle.base_types.specs.declared.ids.Node.{Node}
use Rattle.tree_calls.specs.declared.roster.Roster.{Roster}
use Rattle.message_types.specs.Soundness.{IsSound}
use Rattle.message_types.specs.declared.message.Message.{Message}
use Rattle.script_lines.specs.Sound.{same_node}
use Rattle.hub_board.specs.Hubs.{Hubbed, flag_of, given_of, with_steps}
use Rattle.hub_board.specs.declared.given.Gift.{Gift}
use Rattle.hub_board.specs.declared.given.Gift.TheVariants.{Message as Copied, Begun, Raised, Lapse}
use Rattle.hub_board.specs.declared.given.Given.{Given}
use Rattle.hub_board.specs.declared.given.Turned.{Turned}
use Rattle.hub_board.specs.declared.given.Turned.TheVariants.{Ended, Idle, Worked}
use Rattle.hub_board.specs.declared.given.Given.TheVariants.{Message as Came, Raised as WasRaised}
use Rattle.std.specs.Prelude.{IfErr, IfOk, OnErr, OnOk, Result, Ok, Err, option_map}
use Rattle.std.proofs.Common.{inl, inr}
use Rattle.hub_turns.specs.Meetings.{AreSent, HasPassed, IsGivenSound, IsRefused}
use Rattle.hub_turns.specs.Views.{HubView, NodeView}
use Rattle.run_rules.specs.Past.{Always, appended}
use Rattle.run_rules.specs.Plans.{receiver}
use Rattle.run_rules.specs.declared.step.Step.{Step}
use Rattle.hub_wire.specs.Networks.{next_copy}
use Rattle.hub_wire.specs.Packets.{is_released, any_free}
use Rattle.hub_wire.proofs.Takes.{takes_first}
use Rattle.hub_laws.specs.Keeping.{Round, steps_in}
use Rattle.hub_laws.specs.Closings.{HasMade, KeepsOn}
use Rattle.hub_laws.proofs.Passing.{made_stays}
use Rattle.hub_node.specs.Nodes.{Beginning, HandsIn, IsDone, IsGivenTo, Knows, MayHandIn, Part, part_of}
use Rattle.hub_node.specs.declared.node.NodeFault.{NodeFault}
use Rattle.hub_drive.specs.Seats.{HasComeWith, HasStood, IsAtRest, IsSeated, IsThrough}
use Rattle.hub_drive.specs.declared.seat.Seat.{Seat}

untouched : (pass : NodeView) → IsRefused pass pass
untouched pass = record { known = ([], sym (append-nil pass.seen)); pass_is = refl }

made_goes_on : (hub : HubView) (rounds : List Round) (old new : NodeView) (r : Round) → HasMade hub rounds old
    → HasPassed hub old new r.steps r.given → HasMade hub (r ∷ rounds) new
made_goes_on hub rounds old new r h passed = (old, new, h, passed, untouched new)

-- what is given is for the node
came_is : (o : Option Message) (m : Message) → option_map (λ (x : Message). Came x) o ≡ Some (Came m) → o ≡ Some m
came_is None m e = absurd (cc)
came_is (Some x) m e = cc

raised_not : (o : Option (List ℕ)) (m : Message) → option_map (λ (flag : List ℕ). WasRaised flag) o ≡ Some (Came m) → ⊥
raised_not None m e = absurd (cc)
raised_not (Some x) m e = absurd (cc)

both : (a b : Bool) → (a && b) ≡ true → a ≡ true
both true b e = refl
both false b e = absurd (cc)

given_own : (hub : Hubbed) (node : Node) (gift : Option Gift) (m : Message) → given_of hub node gift ≡ Some (Came m)
    → same_node (receiver m) node ≡ true
given_own hub node None m e = absurd (cc)
given_own hub node (Some Copied) m e =
    let t = (takes_first hub.net node).0 m (came_is (next_copy hub.net node) m e) in
    subst (λ (x : Message). same_node (receiver x) node ≡ true) t.own
    (both (same_node (receiver t.packet.message) node)
    (is_released (any_free hub.net.packets) hub.net.steps t.packet) t.fits)
given_own hub node (Some Begun) m e = absurd (cc)
given_own hub node (Some Raised) m e = absurd (raised_not (flag_of hub node) m e)
given_own hub node (Some Lapse) m e = absurd (cc)

module _ {N : Type 0} (tells : Type 0) (stands : Part → N → List Round → List Step → Type 0)
    (hands_in : (n : N) → HandsIn tells stands n) (hub : HubView) (s : Seat N) (run : Beginning)
    (seated : IsSeated stands run hub s) where
  abbrev part : Part
  part = part_of run s.pass.node

  abbrev may : MayHandIn tells part seated.rounds s.steps.steps
  may = hands_in s.node part seated.rounds s.steps.steps seated.stood

  -- what the node hands in is sound
  pub sends_sound : AreSent hub.roster s.steps.steps
  sends_sound x i m j =
      subst (λ (r : Roster). IsSound r m) (sym seated.roster) (((may.keeps None).keeps.sends x i m j).1)

  module _ (pass : NodeView) (given : Option Given) (passed : HasPassed hub s.pass pass s.steps.steps given)
      (sound : IsGivenSound hub.roster given) where
    pub given_to : IsGivenTo part given
    given_to = record {
      own = (λ m e. given_own (with_steps passed.before.hub s.pass.node s.steps.steps) s.pass.node
          passed.turned.gift_is m (sym passed.turned.given_is ∙ e));
      sound = (λ m e. subst (λ (r : Roster). IsSound r m) seated.roster (sound m e));
    }

    abbrev round : Round
    round = record { steps = s.steps.steps; given = given }

    -- the pass is its node's still
    pub node_on : (s' : Seat N) → s'.pass ≡ pass → s'.pass.node ≡ s.pass.node
    node_on s' is = ap (λ (p : NodeView). p.node) is ∙ ap (λ (p : NodeView). p.node) passed.pass_is

    -- the node has done its work
    pub seated_on : (s' : Seat N) → s'.pass ≡ pass
        → stands part s'.node (round ∷ seated.rounds) s'.steps.steps → IsSeated stands run hub s'
    seated_on s' is stood = record {
      hub_is = ap (λ (p : NodeView). p.hub) is ∙ ap (λ (p : NodeView). p.hub) passed.pass_is ∙ seated.hub_is;
      roster = seated.roster;
      rounds = round ∷ seated.rounds;
      made = subst (HasMade hub (round ∷ seated.rounds)) (sym is)
          (made_goes_on hub seated.rounds s.pass pass round seated.made passed);
      keeps = subst (λ (n : Node). Always (KeepsOn run.script n) (round ∷ seated.rounds)) (sym (node_on s' is))
          (seated.keeps, may.keeps given);
      stood = subst (λ (n : Node). stands (part_of run n) s'.node (round ∷ seated.rounds) s'.steps.steps)
          (sym (node_on s' is)) stood;
    }

    pub through_on : (s' : Seat N) → (is : s'.pass ≡ pass)
        → (stood : stands part s'.node (round ∷ seated.rounds) s'.steps.steps) → s'.fault ≡ None → s'.steps.steps ≡ []
        → (Knows tells s.pass.node → IsDone run s.pass.node (steps_in (round ∷ seated.rounds)))
        → IsThrough stands run hub tells s'
    unfolding seated_on
    through_on s' is stood well none done = record {
      well = well;
      seated = seated_on s' is stood;
      none = none;
      done = (λ knows. subst (λ (n : Node). IsDone run n (steps_in (round ∷ seated.rounds))) (sym (node_on s' is))
          (done (subst (Knows tells) (node_on s' is) knows)));
    }

    -- the node has handed in, and did its work, or something failed there
    pub stood_on : (stays : N → N → Type 0) (failed : NodeFault → N → N → Type 0)
        (broken : Part → N → List Round → Type 0) (n : N) (left : List Step)
        → HasComeWith stands stays failed broken part (round ∷ seated.rounds) s.node n left
        → HasStood stands stays failed broken run hub pass n left
    stood_on stays failed broken n left since =
        let own : pass.node ≡ s.pass.node = ap (λ (p : NodeView). p.node) passed.pass_is in record {
          hub_is = ap (λ (p : NodeView). p.hub) passed.pass_is ∙ seated.hub_is;
          rounds = round ∷ seated.rounds;
          made = made_goes_on hub seated.rounds s.pass pass round seated.made passed;
          keeps = subst (λ (k : Node). Always (KeepsOn run.script k) (round ∷ seated.rounds)) (sym own)
              (seated.keeps, may.keeps given);
          before = s.node;
          past = seated.rounds;
          handed = s.steps.steps;
          stood = subst (λ (k : Node). stands (part_of run k) s.node seated.rounds s.steps.steps) (sym own)
              seated.stood;
          whole = refl;
          since = subst (λ (k : Node).
              HasComeWith stands stays failed broken (part_of run k) (round ∷ seated.rounds) s.node n left) (sym own)
              since;
        }

    -- nothing came
    pub rests_on : (s' : Seat N) → s'.pass ≡ pass → stands part s'.node (round ∷ seated.rounds) s'.steps.steps
        → s'.fault ≡ None → s.steps.steps ≡ [] → given ≡ None → s'.steps.steps ≡ []
        → (s'.ended ≡ false → Knows tells s.pass.node
        → IsDone run s.pass.node (steps_in (round ∷ seated.rounds)) → ⊥)
        → IsAtRest stands run hub tells s'
    unfolding seated_on
    rests_on s' is stood well handed nothing none undone = record {
      well = well;
      seated = seated_on s' is stood;
      none = none;
      before = seated.rounds;
      newest = (λ i. record { steps = handed i; given = nothing i } ∷ seated.rounds);
      undone = (λ e knows done. undone e (subst (Knows tells) (node_on s' is) knows)
          (subst (λ (l : List Step). IsDone run s.pass.node (appended l (steps_in seated.rounds))) (sym handed)
          (subst (λ (n : Node). IsDone run n (steps_in seated.rounds)) (node_on s' is) done)));
    }

-- nothing was handed in through a pass for want of memory
pub stood_still : {N : Type 0} (stands : Part → N → List Round → List Step → Type 0) (stays : N → N → Type 0)
    (failed : NodeFault → N → N → Type 0) (broken : Part → N → List Round → Type 0) (run : Beginning) (hub : HubView)
    (old new : NodeView) (n : N)
    (left : List Step) → HasStood stands stays failed broken run hub old n left → IsRefused old new
    → HasStood stands stays failed broken run hub new n left
stood_still stands stays failed broken run hub old new n left h refused =
    let own : new.node ≡ old.node = ap (λ (p : NodeView). p.node) refused.pass_is in record {
      hub_is = ap (λ (p : NodeView). p.hub) refused.pass_is ∙ h.hub_is;
      rounds = h.rounds;
      made = made_stays hub h.rounds old new h.made refused;
      keeps = subst (λ (k : Node). Always (KeepsOn run.script k) h.rounds) (sym own) h.keeps;
      before = h.before;
      past = h.past;
      handed = h.handed;
      stood = subst (λ (k : Node). stands (part_of run k) h.before h.past h.handed) (sym own) h.stood;
      whole = h.whole;
      since = subst (λ (k : Node). HasComeWith stands stays failed broken (part_of run k) h.rounds h.before n left)
          (sym own)
          h.since;
    }

-- one that sits there with nothing to hand in stands there
pub stood_first : {N : Type 0} (stands : Part → N → List Round → List Step → Type 0) (stays : N → N → Type 0)
    (failed : NodeFault → N → N → Type 0) (broken : Part → N → List Round → Type 0) (so : (a : N) → stays a a)
    (run : Beginning) (hub : HubView) (s : Seat N)
    → IsSeated stands run hub s → s.steps.steps ≡ []
    → HasStood stands stays failed broken run hub s.pass s.node s.steps.steps
stood_first stands stays failed broken so run hub s h none = record {
  hub_is = h.hub_is;
  rounds = h.rounds;
  made = h.made;
  keeps = h.keeps;
  before = s.node;
  past = h.rounds;
  handed = [];
  stood = subst (stands (part_of run s.pass.node) s.node h.rounds) none h.stood;
  whole = refl;
  since = inl (h.stood, so s.node);
}

-- what has become of a node, by what came of its work
pub came_by : {N T : Type 0} (stands : Part → N → List Round → List Step → Type 0) (stays : N → N → Type 0)
    (failed : NodeFault → N → N → Type 0) (broken : Part → N → List Round → Type 0) (part : Part)
    (rounds : List Round) (made : List Step) (before n : N)
    (r : Result T NodeFault) → OnOk r (stands part n rounds made) → OnOk r (stays before n)
    → IfErr r (λ fault. failed fault before n) → OnErr r (broken part n rounds)
    → HasComeWith stands stays failed broken part rounds before n made
came_by stands stays failed broken _ rounds made before n (Ok x) stood h f b = inl (stood, h)
came_by stands stays failed broken _ rounds made before n (Err fault) stood h f b = inr ((fault, f), b)

-- what is neither of the others
pub is_idle : (turned : Turned) → (turned ≡ Worked → ⊥) → (turned ≡ Ended → ⊥) → turned ≡ Idle
is_idle Worked worked ended = absurd (worked refl)
is_idle Idle worked ended = refl
is_idle Ended worked ended = absurd (ended refl)

-- a seat notes whether its node was done, and nothing else
pub through_so : {N : Type 0} (tells : Type 0) (stands : Part → N → List Round → List Step → Type 0) (hub : HubView)
    (run : Beginning) (s : Seat N) (ended : Bool) → IsThrough stands run hub tells s
    → IsThrough stands run hub tells (record s { ended = ended })
through_so tells stands hub run s ended h = record {
  well = h.well;
  seated = record {
    hub_is = h.seated.hub_is;
    roster = h.seated.roster;
    rounds = h.seated.rounds;
    made = h.seated.made;
    keeps = h.seated.keeps;
    stood = h.seated.stood;
  };
  none = h.none;
  done = h.done;
}

-- what holds where a result is Ok
pub on_ok : {T E : Type 0} (r : Result T E) (P Q : Type 0) → (P → Q) → OnOk r P → OnOk r Q
on_ok (Ok x) P Q f h = f h
on_ok (Err e) P Q f h = tt

pub if_both : {T E : Type 0} (r : Result T E) (S : Type 0) (Q P : T → Type 0)
    → ((x : T) → r ≡ Ok x → S → Q x → P x) → OnOk r S → IfOk r Q → IfOk r P
if_both (Ok x) S Q P f s q = f x refl s q
if_both (Err e) S Q P f s q = tt

pub if_at : {T E : Type 0} (r : Result T E) (x : T) (P : T → Type 0) → r ≡ Ok x → IfOk r P → P x
if_at (Ok y) x P e h = let same : y ≡ x = cc in subst P same h
if_at (Err y) x P e h = absurd (cc)

pub at_ok : {T E : Type 0} (r : Result T E) (x : T) (P : Type 0) → r ≡ Ok x → OnOk r P → P
at_ok (Ok y) x P e h = h
at_ok (Err y) x P e h = absurd (cc)
