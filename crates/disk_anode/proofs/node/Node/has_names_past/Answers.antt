use Rattle.std.proofs.Common.{◌≡◌, ◌<◌, ◌≤◌, ◌+◌, ◌*◌, ℕ, arith, rules, ◌∙◌}
use Rattle.std.specs.Prelude.{true, false, ◌==◌, ◌&&◌, not, nat_le, IsTrue}
use Rattle.std.proofs.lemmas.Bool.Decides.{nat_tests}
use Rattle.disk_anode.specs.Node.{pointer_of}
use Rattle.disk_anode.specs.Anode.{bytes_of, names_past}
use Rattle.disk_anode.proofs.Counting.{one_of_many, none_many}
use Rattle.disk_anode.proofs.node.Node.has_names_past.Goals as goal

past_true : (n at pointer : ℕ) → n ≤ at → (pointer ≡ 0 → ⊥) → (nat_le n at && not (pointer == 0)) ≡ true
past_true n at pointer le some =
    let a : nat_le n at ≡ true = grind (arith, nat_tests) in
    let b : (pointer == 0) ≡ false = grind (arith, nat_tests) in
    λ i. a i && not (b i)

pub returns-then-pointer-ne0 : goal.returns-then-pointer-ne0
returns-then-pointer-ne0 c =
    let node = c.args.self.now in
    let bytes = c.bytes-bytes.ensures in
    let low = c.if-bytes-j.true in
    let pointer = c.pointer.ensures in
    let some = c.if-pointer-ne0.true in
    let le : bytes_of node ≤ 1024 * (12 + c.loop-j.j) = omega (arith, bytes, low) in
    let is : (nat_le (bytes_of node) (1024 * (12 + c.loop-j.j)) && not (pointer_of node (16 + c.loop-j.j) == 0)) ≡ true = past_true (bytes_of node) (1024 * (12 + c.loop-j.j)) (pointer_of node (16 + c.loop-j.j)) le (λ e. some (pointer ∙ e)) in
    let many = one_of_many (λ j. nat_le (bytes_of node) (1024 * (12 + j)) && not (pointer_of node (16 + j) == 0)) c.loop-j.j 52 c.loop-j-test.true is in
    (λ (h : IsTrue true). omega (arith, many), λ (h : 0 < names_past node). search rules)

pub returns : goal.returns
returns c =
    let none : names_past c.args.self.now ≡ 0 = none_many (λ j. nat_le (bytes_of c.args.self.now) (1024 * (12 + j)) && not (pointer_of c.args.self.now (16 + j) == 0)) 52 (λ j lt. c.loop-j.invariant j (omega arith)) in
    (λ (h : IsTrue false). search rules, λ (h : 0 < names_past c.args.self.now). absurd (omega (arith, none, h)))
