use Rattle.std.proofs.Common.{◌≡◌, ◌∙◌, ◌∷◌, ◌++◌, [], ◌-◌, ℕ, List, length, arith}
use Rattle.std.specs.Prelude.{replicate, drop, take}
use Rattle.std.specs.Int.{w32, to_be_bytes}
use Rattle.std.proofs.lemmas.List.{drop-replicate, append_assoc}
use Rattle.disk_lists.proofs.Laid.{take_behind}
use Rattle.disk_lists.proofs.bytes.push_entry.Goals as goal

regroup : (a : List ℕ) (n : ℕ) (b c d e : List ℕ) → ((((a ++ n ∷ []) ++ b) ++ c) ++ d) ++ e ≡ a ++ ((((n ∷ b) ++ c) ++ d) ++ e)
regroup a n b c d e = simp append_assoc

pub returns-clause-items : goal.returns-clause-items
returns-clause-items c =
    let name = c.args.name.now in
    let before = c.args.bytes.now.items in
    let value = c.as_bytes-name.ensures.value in
    let zeros : drop (length name) (replicate 63 0) ≡ replicate (63 - length name) 0 = drop-replicate {X = ℕ} (length name) 63 0 in
    let first : c.push.new.self.items ≡ before ++ length name ∷ [] = c.in_ok-push.ensures.items ∙ (λ j. before ++ length (value j) ∷ []) in
    let second : c.extend_from_slice.new.self.items ≡ (before ++ length name ∷ []) ++ name = c.in_ok-extend_from_slice.ensures.items ∙ (λ j. first j ++ value j) in
    let third : c.extend_from_slice-2.new.self.items ≡ ((before ++ length name ∷ []) ++ name) ++ replicate (63 - length name) 0 = c.in_ok-extend_from_slice-2.ensures.items ∙ (λ j. second j ++ take (63 - length (value j)) (drop (length (value j)) (replicate 63 0))) ∙ (λ j. ((before ++ length name ∷ []) ++ name) ++ take_behind (length name) (replicate 63 0) j) ∙ (λ j. ((before ++ length name ∷ []) ++ name) ++ zeros j) in
    let fourth : c.extend_from_slice-3.new.self.items ≡ (((before ++ length name ∷ []) ++ name) ++ replicate (63 - length name) 0) ++ to_be_bytes w32 c.args.anode = c.in_ok-extend_from_slice-3.ensures.items ∙ (λ j. third j ++ c.to_be_bytes.ensures j) in
    c.in_ok-extend_from_slice-4.ensures.items ∙ (λ j. fourth j ++ c.to_be_bytes-2.ensures j)
    ∙ regroup before (length name) name (replicate (63 - length name) 0) (to_be_bytes w32 c.args.anode) (to_be_bytes w32 c.args.unique)

pub returns-clause-fits : goal.returns-clause-fits
returns-clause-fits c = record { name = c.as_bytes-name.ensures.name; anode = omega arith; unique = omega arith }
