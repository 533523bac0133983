-- What a node's turn does keeps what stays of a board, and adds a turn at most.
use Rattle.std.proofs.Common.{◌≡◌, ℕ, ◌+◌, ◌<◌, ◌≤◌, rules, true, List, [], ◌∷◌, ◌++◌, length, drop, Option, None}
use Rattle.std.proofs.Common.{Some, is_some, Bool, false, eq-eqb, length-append, refl, sym, ap, subst, ◌∙◌, arith}
use Rattle.std.specs.Prelude.{IsSome, MatchBool, ◌↔◌}
use Rattle.std.specs.Option.{option_to_list}
use Rattle.std.proofs.lemmas.List.{append-nil}
use Rattle.std.proofs.Math.Seq.{drop-append_seam}
use Rattle.base_types.specs.declared.ids.Node.{Node}
use Rattle.tree_calls.specs.declared.roster.Roster.{Roster}
use Rattle.base_types.specs.declared.ids.Node.TheVariants.{Host, Server}
use Rattle.script_lines.specs.Sound.{same_node}
use Rattle.hub_cell.specs.Lists.{GrowsByOne, entries}
use Rattle.hub_cell.specs.Passes.{CellView, IsTurn, PassView}
use Rattle.hub_cell.proofs.Uses.{turn_makes, turn_stays}
use Rattle.hub_board.specs.Hubs.{AreGiven, Hubbed, after, gift_for, with_steps}
use Rattle.hub_board.specs.Turning.{HasTurned, IsOf, IsUntouched, Posted, entered}
use Rattle.hub_board.specs.declared.given.Gift.{Gift}
use Rattle.hub_board.specs.declared.given.Given.{Given}
use Rattle.hub_board.specs.declared.given.Turn.{Turn}
use Rattle.hub_board.proofs.Goings.{goes_on, nothing_handed}
use Rattle.hub_turns.specs.Meetings.{AreSent, AreSound, Does, DoesIn, HasPassed, IsGivenSound, IsReady, IsRefused}
use Rattle.hub_turns.specs.Meetings.{IsSame, IsUsed, Refused, Turned, first_of}
use Rattle.hub_turns.specs.Views.{AreOf, HubView, Met, NodeView}
use Rattle.hub_turns.proofs.Sounds.{gift_sound, steps_sound}
use Rattle.hub_turns.specs.declared.meeting.HubTurn.{HubTurn}
use Rattle.run_rules.specs.declared.step.Step.{Step}

node_self : (n : Node) → same_node n n ≡ true
node_self (Host h) = eq-eqb h.0 h.0 refl
node_self (Server v) = eq-eqb v.0 v.0 refl

-- a turn that hands nothing in, where there is nothing for the node
none_is : {A : Type 0} (o : Option A) → is_some o ≡ false → None ≡ o
none_is None e = refl
none_is (Some x) e = absurd (cc)

no_turn : (board : Posted) (node : Node) → is_some (gift_for board.hub node) ≡ false
    → HasTurned board board node [] None
no_turn board node e =
    let same = nothing_handed board.hub node in record {
      gift_is = None;
      first = none_is (gift_for board.hub node) e ∙ ap (λ (h : Hubbed). gift_for h node) (sym same);
      turns = sym (append-nil board.turns);
      hub = sym same;
      given_is = refl;
    }

pub nothing_done : (work : HubTurn) (board : Posted) → IsReady work → work.steps.steps ≡ []
    → is_some (gift_for board.hub work.node) ≡ false → Does work board work board
nothing_done work board ready none e =
    let turned : Turned board board work work = record {
      turned = subst (λ (ss : List Step). HasTurned board board work.node ss (first_of work.given.items)) (sym none)
          (subst (HasTurned board board work.node []) (ap first_of (sym ready.empty)) (no_turn board work.node e));
      left = none;
      one = (let few = ap (λ (l : List Given). length l) ready.empty in omega arith);
    } in
    subst (λ b. MatchBool b (Refused board board work work) (Turned board board work work)) (sym ready.fresh) turned

one_at_most : (node : Node) (steps : List Step) (gift : Option Gift) → length (entered node steps gift) ≤ 1
one_at_most node [] None = omega arith
one_at_most node [] (Some gift) = omega arith
one_at_most node (s ∷ steps) gift = omega arith

by_flag : (b : Bool) (work work' : HubTurn) (before now : Posted)
    → MatchBool b (Refused before now work work') (Turned before now work work') → GrowsByOne before.turns now.turns
by_flag true work work' before now d = ([], omega arith, d.untouched.turns ∙ sym (append-nil before.turns))
by_flag false work work' before now d = (
  entered work.node work.steps.steps d.turned.gift_is,
  one_at_most work.node work.steps.steps d.turned.gift_is,
  d.turned.turns,
)

pub does_grows : (work work' : HubTurn) (before now : Posted) → Does work before work' now
    → GrowsByOne before.turns now.turns
does_grows work work' before now d = by_flag work'.refused work work' before now d

untouched : (first : Hubbed) (before now : Posted) → IsOf first before → IsUntouched before now → IsOf first now
untouched first before now o u = record {
  hub = u.hub ∙ o.hub ∙ ap (after first) (sym u.turns);
  given = subst (AreGiven first) (sym u.turns) o.given;
}

stays_by : (b : Bool) (first : Hubbed) (work work' : HubTurn) (before now : Posted)
    → MatchBool b (Refused before now work work') (Turned before now work work') → IsOf first before → IsOf first now
stays_by true first work work' before now d o = untouched first before now o d.untouched
stays_by false first work work' before now d o =
    goes_on first before now work.node work.steps.steps (first_of work'.given.items) o d.turned

pub does_stays : (first : Hubbed) (work work' : HubTurn) (before now : Posted) → Does work before work' now
    → IsOf first before → IsOf first now
does_stays first work work' before now d o = stays_by work'.refused first work work' before now d o

-- what is on its way stays sound, and what is given is sound
turned_sound : (roster : Roster) (before now : Posted) (node : Node) (steps : List Step) (given : Option Given)
    → HasTurned before now node steps given → AreSound roster before.hub.net → AreSent roster steps
    → AreSound roster now.hub.net × IsGivenSound roster given
turned_sound roster before now node steps given t are h =
    let hub = with_steps before.hub node steps in
    let g = gift_sound roster hub node t.gift_is (steps_sound roster before.hub node steps are h) in (
      subst (λ (b : Hubbed). AreSound roster b.net) (sym t.hub) g.0,
      subst (IsGivenSound roster) (sym t.given_is) g.1,
    )

sound_by : (b : Bool) (roster : Roster) (work work' : HubTurn) (before now : Posted)
    → MatchBool b (Refused before now work work') (Turned before now work work') → AreSound roster before.hub.net
    → AreSent roster work.steps.steps → AreSound roster now.hub.net
sound_by true roster work work' before now d are h =
    subst (λ (b : Hubbed). AreSound roster b.net) (sym d.untouched.hub) are
sound_by false roster work work' before now d are h =
    (turned_sound roster before now work.node work.steps.steps (first_of work'.given.items) d.turned are h).0

pub same_stays : (first before now : Met) (work work' : HubTurn) → DoesIn work before work' now
    → AreSent before.roster work.steps.steps → IsSame first before → IsSame first now
same_stays first before now work work' d h s = record {
  board = does_stays first.board.hub work work' before.board now.board d.done s.board;
  roster = d.roster ∙ s.roster;
  sound = subst (λ r. AreSound r now.board.hub.net) (sym d.roster)
      (sound_by work'.refused before.roster work work' before.board now.board d.done s.sound h);
}

-- so what a turn gave is sound
pub given_sound : (first : Hubbed) (roster : Roster) (pass pass' : NodeView) (work work' : HubTurn)
    → IsUsed first roster pass pass' work work' → work'.refused ≡ false → AreSent roster work.steps.steps
    → (given : Option Given) → first_of work'.given.items ≡ given → IsGivenSound roster given
given_sound first roster pass pass' work work' u went h given is =
    let d = subst (λ b. MatchBool b (Refused u.before u.now work work') (Turned u.before u.now work work')) went
    u.done in
    subst (IsGivenSound roster) is
    (turned_sound roster u.before u.now work.node work.steps.steps (first_of work'.given.items) d.turned u.sound h).1

-- what was made is the turn
made_is : (before now : Posted) (es made : List Turn) → now.turns ≡ before.turns ++ es → now.turns ≡ before.turns ++
    made
    → made ≡ es
made_is before now es made e m =
    sym (drop-append_seam before.turns made) ∙ ap (drop (length before.turns)) (sym m ∙ e)
    ∙ drop-append_seam before.turns es

-- a hub, by its cell
abbrev pub hub_of : CellView Met → HubView
hub_of cell = record { id = cell.id; nodes = cell.seats; first = cell.first.board.hub; roster = cell.first.roster }

-- a turn of a node at a hub
pub passed : (hub : HubView) (pass pass' : NodeView) (work work' : HubTurn)
    (u : IsUsed hub.first hub.roster pass pass' work work')
    → work.node ≡ pass.node → work'.refused ≡ false → (steps : List Step) → work.steps.steps ≡ steps
    → (given : Option Given) → first_of work'.given.items ≡ given → HasPassed hub pass pass' steps given
passed hub pass pass' work work' u node went steps same given is =
    let d = subst (λ b. MatchBool b (Refused u.before u.now work work') (Turned u.before u.now work work')) went
    u.done in
    let turned : HasTurned u.before u.now pass.node steps given =
    subst (λ g. HasTurned u.before u.now pass.node steps g) is
    (subst (λ ss. HasTurned u.before u.now pass.node ss (first_of work'.given.items)) same
    (subst (λ n. HasTurned u.before u.now n work.steps.steps (first_of work'.given.items)) node d.turned)) in
    let made = made_is u.before u.now (entered pass.node steps turned.gift_is) u.made turned.turns u.grown in
    record {
      before = u.before;
      now = u.now;
      known = u.known;
      was = u.was;
      is = u.is;
      turned = turned;
      pass_is = u.pass_is ∙ ap (λ es. record {
        node = pass.node;
        hub = pass.hub;
        seen = u.now.turns;
        made = pass.made ++ es;
      }) made;
    }

pub given_one : (hub : HubView) (pass pass' : NodeView) (work work' : HubTurn) → IsUsed hub.first hub.roster pass
    pass' work work'
    → work'.refused ≡ false → length work'.given.items ≤ 1
given_one hub pass pass' work work' u went =
    (subst (λ b. MatchBool b (Refused u.before u.now work work') (Turned u.before u.now work work')) went u.done).one

-- what is popped of one
pub popped : (items rest : List Given) (given : Given) → items ≡ rest ++ given ∷ [] → length items ≤ 1
    → first_of items ≡ Some given
popped items [] given e few = ap first_of e
popped items (x ∷ rest) given e few =
    absurd (let more = ap length e in let size = length-append rest (given ∷ []) in omega arith)

no_some : (let none : Option Given = None in IsSome none) → ⊥
no_some some = search (rules, some)

pub popped_is : (items rest : List Given) (o : Option Given) (old new : ℕ) → items ≡ rest ++ option_to_list o
    → old ≡ length items → new ≡ length rest → new + length (option_to_list o) ≡ old
    → (IsSome o ↔ (0 < old)) → length items ≤ 1 → first_of items ≡ o
popped_is items rest (Some given) old new e len rest_len both variant few = popped items rest given e few
popped_is [] rest None old new e len rest_len both variant few = refl
popped_is (x ∷ items) rest None old new e len rest_len both variant few =
    let more : 0 < old = omega arith in
    absurd (no_some (variant.1 more))

-- a turn for which memory ran out
pub refused : (hub : HubView) (pass pass' : NodeView) (work work' : HubTurn) → IsUsed hub.first hub.roster pass pass'
    work work'
    → work'.refused ≡ true → IsRefused pass pass'
refused hub pass pass' work work' u failed =
    let d = subst (λ b. MatchBool b (Refused u.before u.now work work') (Turned u.before u.now work work')) failed
    u.done in
    let none = made_is u.before u.now [] u.made (d.untouched.turns ∙ sym (append-nil u.before.turns)) u.grown in
    let seen : pass'.seen ≡ u.now.turns = ap (λ (p : NodeView). p.seen) u.pass_is in
    record {
      known = (u.known.0, seen ∙ d.untouched.turns ∙ u.known.1);
      pass_is = u.pass_is ∙ (λ i. record {
        node = pass.node;
        hub = pass.hub;
        seen = sym seen i;
        made = (ap (λ es. pass.made ++ es) none ∙ append-nil pass.made) i;
      });
    }

-- a pass that stays as it is
pub stays_pass : (pass now : NodeView) → now ≡ pass → IsRefused pass now
stays_pass pass now same =
    subst (IsRefused pass) (sym same) (record { known = ([], sym (append-nil pass.seen)); pass_is = refl })

-- what holds between two that are the same as these
pub between : {A : Type 0} (R : A → A → Type 0) (a b c d : A) → b ≡ a → d ≡ c → R b c → R a d
between R a b c d first last h = subst (R a) (sym last) (subst (λ x. R x c) first h)

-- the pass stays its node's and the hub's
pub same_pass : (first : Hubbed) (roster : Roster) (pass pass' : NodeView) (work work' : HubTurn)
    → IsUsed first roster pass pass' work work'
    → (pass'.node ≡ pass.node) × (pass'.hub ≡ pass.hub)
same_pass first roster pass pass' work work' u =
    (ap (λ (p : NodeView). p.node) u.pass_is, ap (λ (p : NodeView). p.hub) u.pass_is)

-- the turns that a turn adds are its node's
entered_own : (node : Node) (steps : List Step) (gift : Option Gift) → AreOf node (entered node steps gift)
entered_own node [] None = tt
entered_own node [] (Some gift) = (node_self node, tt)
entered_own node (s ∷ steps) gift = (node_self node, tt)

own_more : (node : Node) (made es : List Turn) → AreOf node made → AreOf node es → AreOf node (made ++ es)
own_more node [] es h k = k
own_more node (t ∷ made) es h k = (h.0, own_more node made es h.1 k)

made_own : (b : Bool) (node : Node) (work work' : HubTurn) (before now : Posted) (made : List Turn)
    → work.node ≡ node → now.turns ≡ before.turns ++ made
    → MatchBool b (Refused before now work work') (Turned before now work work') → AreOf node made
made_own false node work work' before now made is grown d =
    let m = made_is before now (entered work.node work.steps.steps d.turned.gift_is) made d.turned.turns grown in
    subst (AreOf node) (sym (m ∙ ap (λ n. entered n work.steps.steps d.turned.gift_is) is))
    (entered_own node work.steps.steps d.turned.gift_is)
made_own true node work work' before now made is grown d =
    let m = made_is before now [] made (d.untouched.turns ∙ sym (append-nil before.turns)) grown in
    subst (AreOf node) (sym m) tt

-- the pass of a cell that a node's pass is, after a turn
module _ (first : Met) (node : Node) (pass pass' : PassView Turn) (work work' : HubTurn) (is : work.node ≡ node)
    (t : IsTurn (λ (m : Met). m.board.turns) (λ now. IsSame first now) DoesIn pass pass' work work') where
  abbrev view : PassView Turn → NodeView
  view p = record { node = node; hub = p.cell; seen = p.seen; made = entries p.made }

  pub used : IsUsed first.board.hub first.roster (view pass) (view pass') work work'
  used = record {
    before = t.before.board;
    now = t.after.board;
    sound = subst (λ r. AreSound r t.before.board.hub.net) t.fits.0.roster t.fits.0.sound;
    known = t.known;
    was = t.fits.0.board;
    is = t.fits.1.board;
    done = t.done.done;
    made = t.added;
    grown = t.grown;
    pass_is = λ i. record {
      node = node;
      hub = (turn_stays (λ (m : Met). m.board.turns) (λ now. IsSame first now) DoesIn pass pass' work work' t).0 i;
      seen = ap (λ (p : PassView Turn). p.seen) t.pass_is i;
      made = turn_makes (λ (m : Met). m.board.turns) (λ now. IsSame first now) DoesIn pass pass' work work' t t.added
          t.grown i;
    };
  }

  pub rests : (pass.spare ≡ 0) × AreOf node (entries pass.made) → (pass'.spare ≡ 0) × AreOf node (entries pass'.made)
  rests h = (
    (turn_stays (λ (m : Met). m.board.turns) (λ now. IsSame first now) DoesIn pass pass' work work' t).1 ∙ h.0,
    subst (AreOf node)
        (sym (turn_makes (λ (m : Met). m.board.turns) (λ now. IsSame first now) DoesIn pass pass' work work' t
        t.added t.grown))
        (own_more node (entries pass.made) t.added h.1
        (made_own work'.refused node work work' t.before.board t.after.board t.added is t.grown t.done.done)),
  )
