use Rattle.std.proofs.Common.{◌≡◌, ◌<◌, false, ◌++◌, ◌∷◌, ◌∙◌, List, [], None, length, map, ap, refl, sym, subst}
use Rattle.std.proofs.Common.{append_assoc, arith}
use Rattle.std.proofs.lemmas.List.{length_push}
use Rattle.hub_board.specs.Pendings.{Waiting}
use Rattle.hub_drive.specs.Seats.{EachAt}
use Rattle.hub_drive.specs.declared.seat.Seat.{Seat}
use Rattle.hub_drive.proofs.Lists.{each_push, head_taken, map_push}
use Rattle.hub_drive.proofs.driver.seat_all.Goals as goal

pub loop-node-preserved : goal.loop-node-preserved
loop-node-preserved g c =
    let i = c.loop-node.invariant in
    let seat : Seat g.row.N.Denot = record {
      node = c.in-Some.node;
      pass = c.remove-pass.result;
      steps = c.new.result;
      fault = None;
      ended = false;
    } in
    let items = c.push_reserved.ensures.items in
    let some : 0 < length c.loop-node.passes.items = grind arith in
    let head = head_taken c.loop-node.passes.items c.remove-pass.result c.remove-pass.new.self.items some
    c.remove-pass.ensures.value c.remove-pass.ensures.items in (
      tt,
      tt,
      ap (map (λ (s : Seat g.row.N.Denot). s.node)) items
          ∙ map_push (λ (s : Seat g.row.N.Denot). s.node) c.loop-node.seats.items seat
          ∙ ap (λ l. l ++ c.in-Some.node ∷ []) i.2,
      ap (λ (l : List (Seat g.row.N.Denot)).
          map (λ (s : Seat g.row.N.Denot). s.pass) l ++ c.remove-pass.new.self.items) items
          ∙ ap (λ l. l ++ c.remove-pass.new.self.items)
          (map_push (λ (s : Seat g.row.N.Denot). s.pass) c.loop-node.seats.items seat)
          ∙ append_assoc (map (λ (s : Seat g.row.N.Denot). s.pass) c.loop-node.seats.items)
          (c.remove-pass.result ∷ []) c.remove-pass.new.self.items
          ∙ ap (λ l. map (λ (s : Seat g.row.N.Denot). s.pass) c.loop-node.seats.items ++ l) head
          ∙ i.3,
      subst (EachAt (λ (s : Seat g.row.N.Denot). (s.steps.steps ≡ []) × (s.fault ≡ None))) (sym items)
          (each_push (λ (s : Seat g.row.N.Denot). (s.steps.steps ≡ []) × (s.fault ≡ None)) c.loop-node.seats.items seat
          i.4 (ap (λ (w : Waiting). w.steps) c.new.ensures, refl)),
      c.push_reserved.ensures.capacity ∙ i.5,
      (let a = ap length items in let b = length_push c.loop-node.seats.items seat in
          let d = length_push c.loop-node.yielded c.in-Some.node in let e = i.6 in omega arith),
      (let a = ap length head in let d = length_push c.loop-node.yielded c.in-Some.node in let e = i.7 in omega arith),
    )
