-- What is known of hosts, as numbers one by one.
use Rattle.std.proofs.Common.{◌≡◌, ◌<◌, ◌≤◌, ℕ, suc, ◌+◌, List, [], ◌∷◌, length, map, get_or, set, inl, inr, refl, sym, ◌∙◌, ap, arith}
use Rattle.std.proofs.lemmas.Bool.{cases_eq}
use Rattle.std.proofs.lemmas.List.{get_or-set_same, get_or-set_other, length-set}
use Rattle.store_state.specs.declared.state.HostState.{HostState}
use Rattle.store_state.specs.declared.state.HostState.TheVariants.{Unknown}
use Rattle.store_state.specs.declared.state.TakenShip.{TakenShip}
use Rattle.disk_pages.specs.declared.server.TakenShip.{TakenShip as TakenFrom}
use Rattle.disk_records.specs.Said.{host_said, taken_said}

-- the first so many of 17 are said
pub record AreSaid (hosts : List HostState) (n : ℕ) (numbers : List ℕ) : Type 0 where
  pub size : length numbers ≡ 17
  pub said : (k : ℕ) → k < n → get_or numbers k 0 ≡ host_said (get_or hosts k Unknown)

pub said_none : (hosts : List HostState) (numbers : List ℕ) → length numbers ≡ 17 → AreSaid hosts 0 numbers
said_none hosts numbers size = record { size = size; said = λ k lt. absurd (omega (arith, lt)) }

pub said_more : (hosts : List HostState) (n : ℕ) (numbers : List ℕ) (number : ℕ) → AreSaid hosts n numbers → n < 17 → number ≡ host_said (get_or hosts n Unknown)
    → AreSaid hosts (n + 1) (set numbers n number)
said_more hosts n numbers number are lt is = record {
  size = length-set numbers n number ∙ are.size;
  said = λ k low. elim (cases_eq k n) [
    | inl e ↦
        ap (λ j. get_or (set numbers n number) j 0) e ∙ get_or-set_same numbers n number 0 (let size = are.size in omega (arith, size, lt)) ∙ is
        ∙ ap (λ j. host_said (get_or hosts j Unknown)) (sym e)
    | inr apart ↦ get_or-set_other numbers n k number 0 apart ∙ are.said k (omega (arith, low, apart))
  ];
}

pub said_all : (hosts : List HostState) (n : ℕ) (numbers : List ℕ) → AreSaid hosts n numbers → length hosts ≡ 17 → 17 ≤ n → numbers ≡ map host_said hosts
said_all hosts n numbers are size le = by hosts numbers (let a = are.size in omega (arith, a, size)) (λ k lt. are.said k (omega (arith, lt, size, le)))
  where
    by : (hosts : List HostState) (numbers : List ℕ) → length numbers ≡ length hosts → ((k : ℕ) → k < length hosts → get_or numbers k 0 ≡ host_said (get_or hosts k Unknown)) → numbers ≡ map host_said hosts
    by [] [] same each = refl
    by [] (n ∷ numbers) same each = absurd (omega (arith, same))
    by (h ∷ hosts) [] same each = absurd (omega (arith, same))
    by (h ∷ hosts) (n ∷ numbers) same each =
        let first = each 0 (omega arith) in
        let rest = by hosts numbers (omega (arith, same)) (λ k lt. each (suc k) (omega (arith, lt))) in
        λ i. first i ∷ rest i

-- the ships that were taken, of four servers
pub four_taken : (ships : List TakenShip) (w x y z : TakenShip) (a b c d : TakenFrom) → length ships ≡ 4 → w ≡ get_or ships 0 w → x ≡ get_or ships 1 x → y ≡ get_or ships 2 y → z ≡ get_or ships 3 z
    → a ≡ taken_said w → b ≡ taken_said x → c ≡ taken_said y → d ≡ taken_said z → a ∷ b ∷ c ∷ d ∷ [] ≡ map taken_said ships
four_taken [] w x y z a b c d size at_0 at_1 at_2 at_3 of_0 of_1 of_2 of_3 = absurd (omega (arith, size))
four_taken (p ∷ []) w x y z a b c d size at_0 at_1 at_2 at_3 of_0 of_1 of_2 of_3 = absurd (omega (arith, size))
four_taken (p ∷ q ∷ []) w x y z a b c d size at_0 at_1 at_2 at_3 of_0 of_1 of_2 of_3 = absurd (omega (arith, size))
four_taken (p ∷ q ∷ r ∷ []) w x y z a b c d size at_0 at_1 at_2 at_3 of_0 of_1 of_2 of_3 = absurd (omega (arith, size))
four_taken (p ∷ q ∷ r ∷ s ∷ []) w x y z a b c d size at_0 at_1 at_2 at_3 of_0 of_1 of_2 of_3 =
    let e : a ≡ taken_said p = of_0 ∙ ap taken_said at_0 in
    let f : b ≡ taken_said q = of_1 ∙ ap taken_said at_1 in
    let g : c ≡ taken_said r = of_2 ∙ ap taken_said at_2 in
    let h : d ≡ taken_said s = of_3 ∙ ap taken_said at_3 in
    λ i. e i ∷ f i ∷ g i ∷ h i ∷ []
four_taken (p ∷ q ∷ r ∷ s ∷ t ∷ ships) w x y z a b c d size at_0 at_1 at_2 at_3 of_0 of_1 of_2 of_3 = absurd (omega (arith, size))
