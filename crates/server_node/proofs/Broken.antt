-- What becomes of a server's store where something fails in a turn.
use Rattle.std.proofs.Common.{List, [], ◌∷◌, ◌++◌, inl, inr, Option, refl, sym, subst}
use Rattle.base_types.specs.declared.ids.ServerId.{ServerId}
use Rattle.tree_calls.specs.declared.roster.Roster.{Roster}
use Rattle.message_types.specs.Soundness.{Each}
use Rattle.message_types.specs.declared.message.Message.{Message}
use Rattle.hub_board.specs.declared.given.Given.{Given}
use Rattle.hub_laws.specs.Keeping.{Round, message_in, steps_in}
use Rattle.hub_node.specs.Nodes.{Part}
use Rattle.run_rules.specs.Doings.{Doing}
use Rattle.run_rules.specs.Past.{In, appended}
use Rattle.run_rules.specs.Wants.{IsQueued}
use Rattle.run_rules.specs.declared.step.Step.{Step}
use Rattle.store_memory.specs.Views.{View}
use Rattle.store_state.specs.declared.state.StoreState.{StoreState}
use Rattle.server_exporter.specs.Keepers.{GoesOn}
use Rattle.server_exporter.specs.Serving.{AreBrought, CameSo}
use Rattle.server_node.proofs.Standing.{begins}
use Rattle.server_node.specs.Standing.{AreIn, HasAllOf, HasBroken, HasCome, IsOfWant, Stands, doings_in, latest_first}
use Rattle.server_node.specs.Standing.{server_of}
use Rattle.server_node.specs.declared.server.ServerNode.{ServerNode}
use Rattle.server_tables.specs.declared.pending.Pending.{Pending}

-- # Messages among others

in_left : (m : Message) (xs ys : List Message) → In m xs → In m (xs ++ ys)
in_left m [] ys i = absurd i
in_left m (x ∷ xs) ys (inl e) = inl e
in_left m (x ∷ xs) ys (inr i) = inr (in_left m xs ys i)

in_right : (m : Message) (xs ys : List Message) → In m ys → In m (xs ++ ys)
in_right m [] ys i = i
in_right m (x ∷ xs) ys i = inr (in_right m xs ys i)

in_latest : (m : Message) (ms : List Message) → In m ms → In m (latest_first ms)
in_latest m [] i = absurd i
in_latest m (x ∷ ms) (inl e) = in_right m (latest_first ms) (x ∷ []) (inl e)
in_latest m (x ∷ ms) (inr i) = in_left m (latest_first ms) (x ∷ []) (in_latest m ms i)

in_all : (came ms : List Message) → ((m : Message) → In m ms → In m came) → AreIn came ms
in_all came [] i = tt
in_all came (m ∷ ms) i = (i m (inl refl), in_all came ms (λ k j. i k (inr j)))

-- # The messages of the wants that wait

module _ (server : ServerId) (roster : Roster) where
  abbrev AllCame : List Pending → Type 0
  AllCame ps = Each (λ (p : Pending). CameSo server roster p.wanted) ps

  abbrev asked : (ps : List Pending) → AllCame ps → List Message
  asked [] e = []
  asked (p ∷ ps) e = e.0.m ∷ asked ps e.1

  asked_wait : (past : List Doing) (ps : List Pending) (e : AllCame ps)
      → ((p : Pending) → In p ps → IsQueued past p.wanted) → (m : Message) → In m (asked ps e) → IsOfWant past m
  asked_wait past [] e wait m i = absurd i
  asked_wait past (p ∷ ps) e wait m (inl is) =
      subst (IsOfWant past) (sym is) (p.wanted, wait p (inl refl), sym e.0.host, sym e.0.body)
  asked_wait past (p ∷ ps) e wait m (inr i) = asked_wait past ps e.1 (λ q k. wait q (inr k)) m i

  asked_brought : (came : List Message) (ps : List Pending) (e : AllCame ps)
      → ((m : Message) → In m (asked ps e) → In m came) → AreBrought came ps
  asked_brought came [] e i = tt
  asked_brought came (p ∷ ps) e i =
      ((e.0.m, i e.0.m (inl refl), e.0.host, e.0.body), asked_brought came ps e.1 (λ m k. i m (inr k)))

-- # A turn that failed

come_none : (came : List Message) (state : StoreState) → HasCome came state state
come_none came state = record { acts = []; each = tt; done_for = tt; server = refl; roster = refl; state = refl }

pub broken_by : {S : Type 0} (tells : Type 0) (view : S → View) (part : Part) (n m : ServerNode S) (past : List Round)
    (made : List Step) (given : Option Given) → Stands tells view part n past made
    → (tells → (came : List Message) → HasAllOf came n → AreIn came (message_in given)
    → GoesOn came (view n.keeper.store) (view m.keeper.store))
    → HasBroken tells view part m (record { steps = made; given = given } ∷ past)
broken_by tells view part n m past made given st went t =
    let x = n.exporter.tables in
    let own = appended made (steps_in past) in
    let state = (view n.keeper.store).state in
    let came = message_in given ++ latest_first n.inbox in
    let waiting = asked x.server x.roster x.pending st.ready.served.asked in
    let all = came ++ waiting in
    let brought : AreBrought all x.pending = asked_brought x.server x.roster all x.pending st.ready.served.asked
    (λ k i. in_right k came waiting i) in
    let kept : AreIn all n.inbox = in_all all n.inbox (λ k i. in_left k came waiting
    (in_right k (message_in given) (latest_first n.inbox) (in_latest k n.inbox i))) in
    let its : AreIn all (message_in given) = in_all all (message_in given) (λ k i. in_left k came waiting
    (in_left k (message_in given) (latest_first n.inbox) i)) in record {
      kept = state;
      keeps = (st.so.keeps t).stands.keeps;
      came = came;
      untaken = (begins tells view part n past made given st).kept.messages;
      asked = waiting;
      waits = asked_wait x.server x.roster (doings_in part.run (server_of part.node) own) x.pending
          st.ready.served.asked (st.so.at t).tables.wants.pending;
      come = went t all (brought, kept) its state (come_none all state);
    }
