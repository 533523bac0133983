-- All pages of a log, those that recovery makes anew in place of what stands on the disk.
use Rattle.std.proofs.Common.{◌≡◌, ◌<◌, ℕ, List, [], length, get_or, Option, Some, None, refl, sym, ◌∙◌, subst, arith}
use Rattle.std.specs.Prelude.{Bool, true, false, IsSome, MatchOption, Result, Ok, Err, IfOk}
use Rattle.disk_layout.specs.declared.half.Half.{Half}
use Rattle.disk_layout.specs.declared.superblock.Superblock.{Superblock}
use Rattle.disk_layout.specs.Places.{in_place, pages_of}
use Rattle.disk_layout.specs.Entry.{entries}
use Rattle.disk_layout.specs.Half.{HasLog}
use Rattle.disk_layout.specs.Pages.{recovered, pages_in, is_named}
use Rattle.disk_layout.proofs.Steps.{recovered_named}
use Rattle.disk_log.specs.Mount.{AreSettled}
use Rattle.disk_log.specs.Recovered.{blank_page, AreOver, AreRecovered}
use Rattle.disk_log.proofs.Placed.{recovered_unnamed}

pub all_settled : (superblock : Superblock) (half : Half) (image : List ℕ) (table : List (Option (List ℕ))) (pages : List (List ℕ)) → HasLog superblock half image → half.pages ≡ pages_of superblock.blocks → length table ≡ half.pages
    → AreRecovered (entries half image) table → length pages ≡ length table → AreOver table image (length table) pages → AreSettled image pages
unfolding pages_in
all_settled superblock half image table pages log many size are same over = record {
  superblock = superblock;
  half = half;
  log = log;
  size = same ∙ size ∙ many;
  each = λ p lt. by p (omega arith) (get_or table p None) refl (is_named p (entries half image)) refl (over p (omega arith));
}
  where
    by : (p : ℕ) → p < length table → (o : Option (List ℕ)) → get_or table p None ≡ o → (named : Bool) → is_named p (entries half image) ≡ named
        → MatchOption o (get_or pages p [] ≡ in_place image p) (λ (made : List ℕ). get_or pages p [] ≡ made) → get_or pages p [] ≡ recovered (entries half image) (in_place image) p
    by p lt (Some made) there true named is = is ∙ are.kept p made there ∙ recovered_named (entries half image) (λ (q : ℕ). blank_page) (in_place image) p named
    by p lt (Some made) there false named is = let e : None ≡ Some made = sym (are.others p named) ∙ there in absurd (cc)
    by p lt None there true named is = let some = subst (λ (o : Option (List ℕ)). IsSome o) there (are.named p lt named) in absurd (grind (arith, some))
    by p lt None there false named is = is ∙ sym (recovered_unnamed (entries half image) (in_place image) p named)

-- both facts of a value
pub both_of : {X Y : Type 0} (r : Result X Y) (P Q : X → Type 0) → IfOk r P → IfOk r Q → IfOk r (λ (x : X). P x × Q x)
both_of (Ok x) P Q p q = (p, q)
both_of (Err e) P Q p q = tt
