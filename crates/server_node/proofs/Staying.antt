-- What stays of a server whose machine has tried its store.
use Rattle.std.proofs.Common.{◌≡◌, ◌<◌, ◌++◌, true, false, List, [], ◌∷◌, Option, Some, length, refl, sym, ap, subst}
use Rattle.std.proofs.Common.{arith}
use Rattle.std.specs.Prelude.{IsOk, OnOk, Result, Ok, Err, remove, slice_index_or}
use Rattle.message_types.specs.declared.message.Message.{Message}
use Rattle.hub_board.specs.declared.given.Given.{Given}
use Rattle.hub_board.specs.declared.given.Given.TheVariants.{Message as CameIn}
use Rattle.hub_laws.specs.Keeping.{message_in}
use Rattle.run_rules.specs.Past.{In}
use Rattle.store_memory.specs.Views.{View}
use Rattle.hub_node.specs.Lines.{LinesView}
use Rattle.server_exporter.specs.declared.exporter.Exporter.{Exporter}
use Rattle.server_exporter.specs.Keepers.{HasTried}
use Rattle.server_exporter.specs.ExporterFault.{ExporterFault}
use Rattle.server_exporter.specs.Serving.{AreBrought}
use Rattle.server_node.proofs.Kept.{first_of}
use Rattle.server_node.proofs.Turns.{on_ok}
use Rattle.server_node.specs.Standing.{AreIn, HasAllOf, HasServed, IsGiveBackTo}
use Rattle.server_node.specs.declared.server.ServerNode.{ServerNode}

module _ {S : Type 0} (tells : Type 0) (view : S → View) where
  -- its machine has tried its store
  pub served_by : {T : Type 0} (r : Result T ExporterFault) (a b : ServerNode S)
      → HasTried r (view a.keeper.store) (view b.keeper.store) b.keeper.left → HasServed tells view a b
  served_by r a b h = record {
    same = h.same;
    counted = h.counted;
    mendable = (λ m. h.mendable);
    worn = (λ w. h.wear);
  }

  -- its store is as it was
  pub same_keeper : (n : ServerNode S) (x : Exporter) (lines : LinesView)
      → HasServed tells view n (record n { exporter = x; lines = lines })
  same_keeper n x lines = record {
    same = record { server = refl; roster = refl };
    counted = omega arith;
    mendable = (λ m. m);
    worn = (λ w. w);
  }

-- # What is left to it

-- a step was made and pushed: the wants that wait were brought
pub all_then : {S A T E F : Type 0} (came : List Message) (r : Result A E) (done : Result T F)
    (n : ServerNode S) → OnOk done (IsOk r) → OnOk r (AreBrought came n.exporter.tables.pending) → AreIn came n.inbox
    → OnOk done (HasAllOf came n)
all_then came (Ok s) (Ok u) n is all kept = (all, kept)
all_then came (Ok s) (Err f) n is all kept = tt
all_then came (Err e) (Ok u) n is all kept = let clash : false ≡ true = is in absurd (cc)
all_then came (Err e) (Err f) n is all kept = tt

-- one message more is kept
pub in_more : (came ms : List Message) (m : Message) → AreIn came ms → In m came → AreIn came (ms ++ m ∷ [])
in_more came [] m all one = (one, tt)
in_more came (x ∷ ms) m all one = (all.0, in_more came ms m all.1 one)

pub first_in : (came ms : List Message) (m : Message) → 0 < length ms → m ≡ slice_index_or ms 0 m → AreIn came ms
    → In m came
first_in came ms m some e all = (subst (AreIn came) (first_of ms m some e) all).0

pub rest_in : (came ms rest : List Message) → rest ≡ remove ms 0 → AreIn came ms → AreIn came rest
rest_in came ms rest r all = subst (AreIn came) (sym r) (by ms all)
  where
    by : (l : List Message) → AreIn came l → AreIn came (remove l 0)
    by [] all = tt
    by (m ∷ l) all = all.1

-- what was given is kept
pub put_all : {S T E : Type 0} (came : List Message) (n m : ServerNode S) (r : Result T E) (given : Option Given)
    → IsGiveBackTo given → m ≡ record n { inbox = m.inbox }
    → ((message : Message) → given ≡ Some (CameIn message) → OnOk r (m.inbox ≡ n.inbox ++ message ∷ []))
    → AreIn came (message_in given) → HasAllOf came n → OnOk r (HasAllOf came m)
put_all came n m r given by rest kept its all =
    on_ok r (m.inbox ≡ n.inbox ++ by.0 ∷ []) (HasAllOf came m)
    (λ is. (
      subst (λ (x : Exporter). AreBrought came x.tables.pending) (sym (ap (λ (z : ServerNode _). z.exporter) rest))
          all.0,
      subst (AreIn came) (sym is)
          (in_more came n.inbox by.0 all.1
          (subst (λ (g : Option Given). AreIn came (message_in g)) by.1 its).0),
    ))
    (kept by.0 by.1)
