-- Lines of reports.
use Rattle.std.proofs.Common.{◌≡◌, ◌<◌, ◌+◌, ◌%◌, ◌^◌, ◌==◌, ◌||◌, ℕ, Bool, true, false, List, [], ◌∷◌, ◌++◌, drop, get_or, codes, decimal, flat_map, refl, sym, subst, ap, ap₂, ◌∙◌, arith}
use Rattle.std.specs.List.{list_any}
use Rattle.std.proofs.lemmas.Bool.{false≢true, or_from, ne_eqb}
use Rattle.std.proofs.lemmas.Fmt.{decimal_by_steps, decimal_injective}
use Rattle.std.proofs.lemmas.Grind.{flat_map-append}
use Rattle.std.proofs.lemmas.List.{append_assoc, append_cancel_left, append_cancel_right}
use Rattle.std.proofs.lemmas.List.Folds.{list_any-append}
use Rattle.disk_image.specs.Laws.{rule_number}
use Rattle.disk_image.specs.declared.fault.Fault.{Fault}
use Rattle.disk_image.specs.declared.fault.Rule.{Rule}
use Rattle.disk_image.specs.declared.fault.Rule.TheVariants as rules
use Rattle.disk_report.specs.Laws.{LinesStandInOrder, LineTells}
use Rattle.disk_report.specs.Text.{fault_line, disk_lines}

pub in_order : LinesStandInOrder
unfolding disk_lines
in_order k [] after fault = refl
in_order k (first ∷ before) after fault = flat_map-append (fault_line k) (first ∷ before) (fault ∷ after) ∙ sym (append_assoc (flat_map (fault_line k) (first ∷ before)) (fault_line k fault) (flat_map (fault_line k) after))

-- decimal digits hold no space
abbrev is_space : ℕ → Bool
is_space byte = byte == 32

digit_no_space : (n : ℕ) → n < 10 → list_any is_space ((48 + n) ∷ []) ≡ false
digit_no_space n h = or_from ((48 + n) == 32) false (ne_eqb (48 + n) 32 (λ e. omega arith)) refl

no_space : (n : ℕ) → n < 2 ^ 64 → list_any is_space (decimal n) ≡ false
no_space = decimal_by_steps (λ n digits. list_any is_space digits ≡ false) digit_no_space
    (λ n digits h k. rw (list_any-append is_space digits ((48 + n % 10) ∷ [])) (or_from (list_any is_space digits) (list_any is_space ((48 + n % 10) ∷ [])) k (digit_no_space (n % 10) (omega arith))))

-- so what stands before the first space, and what behind it, follows from the whole
later_too : (a b : Bool) → (a || b) ≡ false → b ≡ false
later_too true b h = absurd (false≢true (sym h))
later_too false b h = h

space_first : (byte : ℕ) (rest : Bool) → 32 ≡ byte → ((byte == 32) || rest) ≡ false → ⊥
space_first byte rest e h = false≢true (sym (subst (λ b. ((b == 32) || rest) ≡ false) (sym e) h))

split : (xs ys s t : List ℕ) → list_any is_space xs ≡ false → list_any is_space ys ≡ false → xs ++ 32 ∷ s ≡ ys ++ 32 ∷ t → (xs ≡ ys) × (s ≡ t)
split [] [] s t a b e = (refl, ap (drop 1) e)
split [] (y ∷ ys) s t a b e = absurd (space_first y (list_any is_space ys) (ap (λ l. get_or l 0 0) e) b)
split (x ∷ xs) [] s t a b e = absurd (space_first x (list_any is_space xs) (sym (ap (λ l. get_or l 0 0) e)) a)
split (x ∷ xs) (y ∷ ys) s t a b e =
    let rest = split xs ys s t (later_too (is_space x) (list_any is_space xs) a) (later_too (is_space y) (list_any is_space ys) b) (ap (drop 1) e) in
    (ap₂ (λ z zs. z ∷ zs) (ap (λ l. get_or l 0 0) e) rest.0, rest.1)

-- the rule of a number
abbrev numbered : List Rule
numbered =
    rules.Superblock ∷ rules.Superblock ∷ rules.Log ∷ rules.ServerPage ∷ rules.CallNumbers ∷ rules.SlotHeader ∷ rules.Anode ∷ rules.ListBlock ∷ rules.IndirectBlock ∷ rules.DirectoryBlock
    ∷ rules.Reach ∷ rules.Count ∷ rules.Promises ∷ []

is_numbered : (rule : Rule) → get_or numbered (rule_number rule) rules.Superblock ≡ rule
is_numbered rules.Superblock = refl
is_numbered rules.Log = refl
is_numbered rules.ServerPage = refl
is_numbered rules.CallNumbers = refl
is_numbered rules.SlotHeader = refl
is_numbered rules.Anode = refl
is_numbered rules.ListBlock = refl
is_numbered rules.IndirectBlock = refl
is_numbered rules.DirectoryBlock = refl
is_numbered rules.Reach = refl
is_numbered rules.Count = refl
is_numbered rules.Promises = refl

same_rule : (a b : Rule) → rule_number a ≡ rule_number b → a ≡ b
same_rule a b e = sym (is_numbered a) ∙ ap (λ n. get_or numbered n rules.Superblock) e ∙ is_numbered b

small_rule : (rule : Rule) → rule_number rule < 2 ^ 64
small_rule rules.Superblock = omega arith
small_rule rules.Log = omega arith
small_rule rules.ServerPage = omega arith
small_rule rules.CallNumbers = omega arith
small_rule rules.SlotHeader = omega arith
small_rule rules.Anode = omega arith
small_rule rules.ListBlock = omega arith
small_rule rules.IndirectBlock = omega arith
small_rule rules.DirectoryBlock = omega arith
small_rule rules.Reach = omega arith
small_rule rules.Count = omega arith
small_rule rules.Promises = omega arith

-- what stands behind the number of the disk
abbrev behind : Fault → List ℕ
behind fault = codes "rule " ++ decimal (rule_number fault.rule) ++ codes "\n"

behind_is : (fault : Fault) → behind fault ≡ codes "rule " ++ (decimal (rule_number fault.rule) ++ codes "\n")
behind_is fault = append_assoc (codes "rule ") (decimal (rule_number fault.rule)) (codes "\n")

same_behind : (this that : Fault) → decimal this.place ++ 32 ∷ behind this ≡ decimal that.place ++ 32 ∷ behind that → this.place < 2 ^ 64 → that.place < 2 ^ 64 → this ≡ that
same_behind this that e small other =
    let parts = split (decimal this.place) (decimal that.place) (behind this) (behind that) (no_space this.place small) (no_space that.place other) e in
    let tails = append_cancel_left (codes "rule ") (decimal (rule_number this.rule) ++ codes "\n") (decimal (rule_number that.rule) ++ codes "\n") (sym (behind_is this) ∙ parts.1 ∙ behind_is that) in
    let numbers = append_cancel_right (decimal (rule_number this.rule)) (decimal (rule_number that.rule)) (codes "\n") tails in
    let rule = same_rule this.rule that.rule (decimal_injective (rule_number this.rule) (rule_number that.rule) (small_rule this.rule) (small_rule that.rule) numbers) in
    let place = decimal_injective this.place that.place small other parts.0 in
    ap₂ (λ p r. record { place = p; rule = r }) place rule

line_is : (k : ℕ) (fault : Fault) → fault_line k fault ≡ codes "disk " ++ (decimal k ++ (32 ∷ (decimal fault.place ++ 32 ∷ behind fault)))
unfolding fault_line
line_is k fault = simp append_assoc

pub line_tells : LineTells
line_tells k this that small other e =
    let whole = sym (line_is k this) ∙ e ∙ line_is k that in
    let numbered = append_cancel_left (codes "disk ") (decimal k ++ (32 ∷ (decimal this.place ++ 32 ∷ behind this))) (decimal k ++ (32 ∷ (decimal that.place ++ 32 ∷ behind that))) whole in
    let rest = append_cancel_left (decimal k) (32 ∷ (decimal this.place ++ 32 ∷ behind this)) (32 ∷ (decimal that.place ++ 32 ∷ behind that)) numbered in
    same_behind this that (ap (drop 1) rest) small other
