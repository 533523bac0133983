-- The blocks that are free once all that ended is durable.
use Rattle.std.proofs.Common.{◌≡◌, ◌<◌, ◌≤◌, ℕ, ◌+◌, ◌*◌, ◌-◌, min, List, [], ◌++◌, length, take, drop, get_or, refl, sym, ◌∙◌, arith}
use Rattle.std.specs.Prelude.{Bool, true, false, ◌==◌, ◌&&◌}
use Rattle.std.proofs.lemmas.List.{append-nil, take-append-drop}
use Rattle.base_types.specs.View.{View}
use Rattle.disk_layout.specs.Numbers.{number_at}
use Rattle.disk_layout.specs.declared.entry.Entry.{Entry}
use Rattle.disk_layout.specs.Places.{in_place}
use Rattle.disk_layout.specs.Pages.{firsts, redone}
use Rattle.disk_layout.proofs.Pages.{firsts_all}
use Rattle.disk_log.specs.Contents.{contents_of, last_stage}
use Rattle.disk_log.specs.Log.{disk_of, state_of, IsIdle}
use Rattle.disk_log.specs.Puts.{overlaid, page_of, or_of, settled_byte}
use Rattle.disk_log.specs.State.{State, HasNoOpen}
use Rattle.disk_log.specs.declared.log.Log.{Log}
use Rattle.disk_log.proofs.Emptying.{no_puts}
use Rattle.disk_space.specs.Counts.{count_page, count_place, count_now, count_settled}
use Rattle.disk_anode.specs.Room.{one, how_many, free_blocks}
use Rattle.disk_anode.proofs.Counting.{many_next, same_many}
use Rattle.disk_objects.proofs.Staging.{two_bytes}
use Rattle.disk_objects.proofs.Sums.{many_split}

firsts_none : (xs : List Entry) → firsts 0 xs ≡ []
unfolding firsts
firsts_none xs = refl

-- numbers that pass a test, one by one
pub none_yet : (f : ℕ → Bool) → how_many f 0 ≡ 0
unfolding how_many
none_yet f = refl

pub one_more : (f : ℕ → Bool) (n : ℕ) (b : Bool) → f n ≡ b → how_many f (n + 1) ≡ how_many f n + one b
one_more f n b is = many_next f n ∙ (λ i. how_many f n + one (is i))

-- whether no pointer names a block
abbrev pub is_zero : State → List ℕ → ℕ → Bool
is_zero state image block = count_now state image block == 0

pub zeros_none : (state : State) (image : List ℕ) → 0 ≡ how_many (is_zero state image) (min (256 * 0) state.superblock.blocks)
zeros_none state image = sym (none_yet (is_zero state image)) ∙ (let e : 0 ≡ min (256 * 0) state.superblock.blocks = omega arith in λ i. how_many (is_zero state image) (e i))

-- the counts of one page
module _ (state : State) (image page : List ℕ) (index : ℕ) (read : page ≡ page_of state.entries state.puts image (1058 + index)) where
  zero_here : (i : ℕ) → i < 256 → (number_at 2 (2 * i) page == 0) ≡ is_zero state image (256 * index + i)
  unfolding count_now
  zero_here i lt =
      let place : 2 * i ≡ count_place (256 * index + i) = omega (arith, lt) in
      let there : 1058 + index ≡ count_page (256 * index + i) = omega (arith, lt) in
      (λ j. number_at 2 (place j) (read j) == 0)
      ∙ (λ j. number_at 2 (count_place (256 * index + i)) (page_of state.entries state.puts image (there j)) == 0)

  pub zeros_page : (counts : ℕ) → counts ≤ 256 → how_many (λ (i : ℕ). number_at 2 (2 * i) page == 0) counts ≡ how_many (λ (i : ℕ). is_zero state image (256 * index + i)) counts
  zeros_page counts few = same_many (λ (i : ℕ). number_at 2 (2 * i) page == 0) (λ (i : ℕ). is_zero state image (256 * index + i)) counts (λ i lt. zero_here i (omega (arith, lt, few)))

  -- so those of the pages so far and of this one
  pub zeros_more : (counts before blocks : ℕ) → before ≡ how_many (is_zero state image) (min (256 * index) blocks) → 256 * index < blocks → counts ≡ min 256 (blocks - 256 * index)
      → before + how_many (λ (i : ℕ). number_at 2 (2 * i) page == 0) counts ≡ how_many (is_zero state image) (min (256 * (index + 1)) blocks)
  zeros_more counts before blocks is lt size =
      let here : min (256 * index) blocks ≡ 256 * index = omega (arith, lt) in
      let next : min (256 * (index + 1)) blocks ≡ 256 * index + counts = omega (arith, lt, size) in
      let one = zeros_page counts (omega (arith, size)) in
      let both = many_split (is_zero state image) (256 * index) counts in
      (λ i. is i + one i) ∙ (λ i. how_many (is_zero state image) (here i) + how_many (λ (j : ℕ). is_zero state image (256 * index + j)) counts)
      ∙ sym both ∙ (λ i. how_many (is_zero state image) (sym next i))

-- no transaction is open still
pub still_none : (new old : State) → new ≡ old → HasNoOpen old → HasNoOpen new
still_none new old same none slot = (λ i. get_or (same i).reservations slot 0) ∙ none slot

-- a log where all is durable
module _ {D : Type 0} (tells : Type 0) (view : D → View) (log : Log D) (idle : IsIdle tells view log) (last : last_stage (contents_of view log) ≡ 0) (told : tells) where
  abbrev Image : List ℕ
  Image = (view (disk_of log)).image

  abbrev forced : ℕ
  forced = (state_of log).forced

  abbrev all : List Entry
  all = (state_of log).entries

  none_put : (state_of log).puts ≡ []
  none_put = no_puts (state_of log) idle.sound.accounts idle.none_open

  none_new : drop forced all ≡ []
  none_new =
      sym (firsts_all (drop forced all) (λ (q : ℕ). redone (take forced all) (in_place Image) q) (length (take forced all)) (idle.sound.steady.on_disk told).whole.ended)
      ∙ (λ i. firsts (last i) (drop forced all)) ∙ firsts_none (drop forced all)

  all_held : take forced all ≡ all
  all_held = sym (append-nil (take forced all)) ∙ (λ i. take forced all ++ sym none_new i) ∙ take-append-drop forced all

  -- so no count is settled but those of now
  pub count_same : (b : ℕ) → count_settled (state_of log) Image b ≡ count_now (state_of log) Image b
  unfolding count_settled count_now settled_byte page_of
  count_same b =
      let p = count_page b in
      let k = count_place b in
      let known : ℕ → List ℕ = λ (q : ℕ). redone all (in_place Image) q in
      (λ i. 256 * or_of (none_new i) p k (get_or (redone (all_held i) (in_place Image) p) k 0) + or_of (none_new i) p (k + 1) (get_or (redone (all_held i) (in_place Image) p) (k + 1) 0))
      ∙ (λ i. 256 * get_or (overlaid (sym none_put i) known p) k 0 + get_or (overlaid (sym none_put i) known p) (k + 1) 0)
      ∙ sym (two_bytes k (overlaid (state_of log).puts known p))

  -- and each block is free that no pointer names
  pub zeros_free : (n : ℕ) → n ≡ (state_of log).superblock.blocks → how_many (is_zero (state_of log) Image) n ≡ free_blocks (state_of log) Image
  zeros_free n all = (λ i. how_many (is_zero (state_of log) Image) (all i)) ∙ same_many (is_zero (state_of log) Image) (λ (b : ℕ). (count_now (state_of log) Image b == 0) && (count_settled (state_of log) Image b == 0)) (state_of log).superblock.blocks
      (λ b lt. sym ((λ i. (count_now (state_of log) Image b == 0) && (count_same b i == 0)) ∙ both (count_now (state_of log) Image b == 0)))
    where
      both : (a : Bool) → (a && a) ≡ a
      both true = refl
      both false = refl

  -- among them are those of the first blocks
  pub zeros_front : (free n : ℕ) → n ≤ (state_of log).superblock.blocks → free ≡ how_many (is_zero (state_of log) Image) n → free ≤ free_blocks (state_of log) Image
  zeros_front free n le is =
      let rest = (state_of log).superblock.blocks - n in
      let both = many_split (is_zero (state_of log) Image) n rest in
      let all = zeros_free (n + rest) (omega (arith, le)) in
      omega (arith, is, both, all)
