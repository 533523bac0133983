-- The plan lines as a wire keeps them, after what each call does to them.
use Rattle.std.proofs.Common.{◌≡◌, ℕ, zero, suc, ◌-◌, Bool, true, false, cond, List, [], ◌∷◌, map, take, None, Some}
use Rattle.std.proofs.Common.{refl, sym, ap, ◌∙◌}
use Rattle.std.specs.List.{find}
use Rattle.std.specs.Option.{option_map}
use Rattle.message_types.specs.declared.message.Message.{Message}
use Rattle.script_lines.specs.declared.script.PlanLine.{PlanLine}
use Rattle.run_rules.specs.Plans.{counts, planned_fate}
use Rattle.run_rules.specs.declared.fate.Fate.{Fate}
use Rattle.hub_wire.specs.Plans.{Lacking, accepted, counted_lines, forgotten, is_at, is_own, is_raised_by, passed}
use Rattle.hub_wire.specs.Plans.{planned, raised_line, ready_lines, waiting_at, with_flag, with_message}
use Rattle.hub_wire.specs.declared.plan.Waiting.{Waiting}
use Rattle.hub_wire.proofs.Maps.{find_mapped, map_same, map_twice}

abbrev counted : Waiting → Lacking
counted w = record { line = w.line; lacking = w.counted }

abbrev ready : Waiting → Lacking
ready w = record { line = w.line; lacking = w.ready }

pub counted_start : (plan : List PlanLine)
    → counted_lines (map waiting_at plan) ≡ map (λ line. record { line = line; lacking = line.n }) plan
counted_start plan = map_twice waiting_at counted plan

pub ready_start : (plan : List PlanLine)
    → ready_lines (map waiting_at plan) ≡ map (λ line. record { line = line; lacking = line.n }) plan
ready_start plan = map_twice waiting_at ready plan

pub counted_accepted : (lines : List Waiting) → counted_lines (map accepted lines) ≡ ready_lines lines
counted_accepted lines = map_twice accepted counted lines

pub ready_accepted : (lines : List Waiting) → ready_lines (map accepted lines) ≡ ready_lines lines
ready_accepted lines = map_twice accepted ready lines

pub counted_forgotten : (lines : List Waiting) → counted_lines (map forgotten lines) ≡ counted_lines lines
counted_forgotten lines = map_twice forgotten counted lines

pub ready_forgotten : (lines : List Waiting) → ready_lines (map forgotten lines) ≡ counted_lines lines
ready_forgotten lines = map_twice forgotten ready lines

pub counted_passed : (m : Message) (lines : List Waiting) → counted_lines (map (with_message m) lines)
    ≡ counted_lines lines
counted_passed m lines =
    map_twice (with_message m) counted lines ∙ map_same (λ w. counted (with_message m w)) counted same lines
  where
    by_test : (b : Bool) (w : Waiting) → counted (cond b (record w { ready = w.ready - 1 }) w) ≡ counted w
    by_test true w = refl
    by_test false w = refl

    same : (w : Waiting) → counted (with_message m w) ≡ counted w
    same w = by_test (counts w.line m) w

pub ready_passed : (m : Message) (lines : List Waiting)
    → ready_lines (map (with_message m) lines) ≡ map (passed m) (ready_lines lines)
ready_passed m lines =
    map_twice (with_message m) ready lines ∙ map_same (λ w. ready (with_message m w)) (λ w. passed m (ready w)) same
    lines
    ∙ sym (map_twice ready (passed m) lines)
  where
    by_test : (b : Bool) (w : Waiting) → ready (cond b (record w { ready = w.ready - 1 }) w)
        ≡ (let l = ready w in cond b (record l { lacking = l.lacking - 1 }) l)
    by_test true w = refl
    by_test false w = refl

    same : (w : Waiting) → ready (with_message m w) ≡ passed m (ready w)
    same w = by_test (counts w.line m) w

pub counted_raised : (flag : List ℕ) (lines : List Waiting)
    → counted_lines (map (with_flag flag) lines) ≡ map (raised_line flag) (counted_lines lines)
counted_raised flag lines =
    map_twice (with_flag flag) counted lines
    ∙ map_same (λ w. counted (with_flag flag w)) (λ w. raised_line flag (counted w)) same lines
    ∙ sym (map_twice counted (raised_line flag) lines)
  where
    by_test : (b : Bool) (w : Waiting) → counted (cond b (record w { line = record w.line { flag = None } }) w)
        ≡ (let l = counted w in cond b (record l { line = record l.line { flag = None } }) l)
    by_test true w = refl
    by_test false w = refl

    same : (w : Waiting) → counted (with_flag flag w) ≡ raised_line flag (counted w)
    same w = by_test (is_raised_by flag w.line.flag) w

pub ready_raised : (flag : List ℕ) (lines : List Waiting)
    → ready_lines (map (with_flag flag) lines) ≡ map (raised_line flag) (ready_lines lines)
ready_raised flag lines =
    map_twice (with_flag flag) ready lines
    ∙ map_same (λ w. ready (with_flag flag w)) (λ w. raised_line flag (ready w)) same lines
    ∙ sym (map_twice ready (raised_line flag) lines)
  where
    by_test : (b : Bool) (w : Waiting) → ready (cond b (record w { line = record w.line { flag = None } }) w)
        ≡ (let l = ready w in cond b (record l { line = record l.line { flag = None } }) l)
    by_test true w = refl
    by_test false w = refl

    same : (w : Waiting) → ready (with_flag flag w) ≡ raised_line flag (ready w)
    same w = by_test (is_raised_by flag w.line.flag) w

abbrev fate_at : Lacking → Fate
fate_at l = planned_fate l.line.deed l.line.flag

pub planned_found : (m : Message) (lines : List Waiting) (w : Waiting) → Some w ≡ find (is_at m) lines
    → Some (planned_fate w.line.deed w.line.flag) ≡ planned (ready_lines lines) m
planned_found m lines w e =
    ap (λ o. option_map fate_at (option_map ready o)) e
    ∙ sym (ap (option_map fate_at) (find_mapped (is_own m) (is_at m) ready (λ x. refl) lines))

pub planned_none : (m : Message) (lines : List Waiting) → None ≡ find (is_at m) lines
    → None ≡ planned (ready_lines lines) m
planned_none m lines e =
    ap (λ o. option_map fate_at (option_map ready o)) e
    ∙ sym (ap (option_map fate_at) (find_mapped (is_own m) (is_at m) ready (λ x. refl) lines))

pub take_mapped : {X Y : Type 0} (f : X → Y) (n : ℕ) (xs : List X) → take n (map f xs) ≡ map f (take n xs)
take_mapped f zero xs = refl
take_mapped f (suc n) [] = refl
take_mapped f (suc n) (x ∷ xs) = ap (λ ys. f x ∷ ys) (take_mapped f n xs)
