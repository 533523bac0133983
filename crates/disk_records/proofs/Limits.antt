-- What is read is within limits.
use Rattle.std.proofs.Common.{◌≡◌, ◌<◌, ℕ, zero, suc, ◌+◌, ◌*◌, List, [], ◌∷◌, ◌++◌, length, sym, ◌∙◌, arith}
use Rattle.std.specs.Prelude.{true, ◌&&◌, nat_le, nat_lt}
use Rattle.std.proofs.lemmas.Bool.{and_parts, leb-true, ltb-true}
use Rattle.base_types.specs.Image.{byte_at}
use Rattle.base_types.specs.declared.ids.ServerId.{ServerId}
use Rattle.tree_calls.specs.declared.roster.Roster.{Roster}
use Rattle.tree_objects.specs.declared.content.Anode.{Anode}
use Rattle.message_types.specs.Soundness.{Each, IsKept, IsServer}
use Rattle.store_acts.specs.Sound.{AreRecords, IsHolding, IsStay}
use Rattle.disk_layout.specs.Numbers.{number_at}
use Rattle.disk_pages.specs.Header.{header_of, is_limit, state_of}
use Rattle.disk_pages.specs.Numbers.{is_numbers_page, is_record, record_at}
use Rattle.disk_pages.specs.Server.{is_code}
use Rattle.disk_pages.specs.Words.{each_below, is_name_at}
use Rattle.disk_pages.specs.declared.header.SlotHeader.{SlotHeader}
use Rattle.disk_pages.specs.declared.header.SlotState.{SlotState}
use Rattle.disk_pages.specs.declared.header.SlotState.TheVariants.{Free, Writable, Clone, Leaving, Arriving, Gone, Unknown}
use Rattle.disk_image.specs.Image.{records_of}
use Rattle.disk_image.specs.Joined.{joined, listed}
use Rattle.disk_image.proofs.Joined.{length-listed}
use Rattle.disk_image_laws.proofs.Finding.{each_at}
use Rattle.disk_records.specs.Record.{stay_for}
use Rattle.disk_records.specs.Loading.{holding_in, is_declared, is_other_declared}

each_append : {X : Type 0} (P : X → Type 0) (xs ys : List X) → Each P xs → Each P ys → Each P (xs ++ ys)
each_append P [] ys h k = k
each_append P (x ∷ xs) ys h k = (h.0, each_append P xs ys h.1 k)

pub each_listed : {X : Type 0} (P : X → Type 0) (value : ℕ → X) (n : ℕ) → ((k : ℕ) → k < n → P (value k)) → Each P (listed value n)
unfolding joined
each_listed P value zero each = tt
each_listed P value (suc n) each =
    each_append P (listed value n) (value n ∷ []) (each_listed P value n (λ k lt. each k (omega (arith, lt)))) (each n (omega arith), tt)

pub each_more : {X : Type 0} (P : X → Type 0) (xs : List X) (x : X) → Each P xs → P x → Each P (xs ++ x ∷ [])
each_more P xs x all one = each_append P xs (x ∷ []) all (one, tt)

-- what is kept of hosts
pub numbers_kept : (page : List ℕ) → is_numbers_page page ≡ true → AreRecords (records_of page)
unfolding is_numbers_page is_record
numbers_kept page is = record {
  count = length-listed (λ host. record_at (24 * host) page) 17;
  each = each_listed IsKept (λ host. record_at (24 * host) page) 17 (λ k lt.
      let all = and_parts (each_below (λ host. is_record (24 * host) page) 17) _ is in
      let one = each_at (λ host. is_record (24 * host) page) 17 k all.0 lt in
      let two = (and_parts (is_code (byte_at page (24 * k + 16)) && nat_lt (byte_at page (24 * k + 17)) 64) _ one).0 in
      let three = and_parts (is_code (byte_at page (24 * k + 16))) (nat_lt (byte_at page (24 * k + 17)) 64) two in
      record { code = leb-true (byte_at page (24 * k + 16)) 21 three.0; rights = ltb-true (byte_at page (24 * k + 17)) 64 three.1 });
}

-- the other server of a stay
server_is : (roster : Roster) (other : ℕ) → is_declared (length roster.capacity) other ≡ true → IsServer roster (record { 0 = other })
server_is roster other is =
    let parts = and_parts (nat_le 1 other) (nat_le other (length roster.capacity)) is in
    record { first = leb-true 1 other parts.0; last = leb-true other (length roster.capacity) parts.1 }

stay_is : (roster : Roster) (state : SlotState) (header : SlotHeader) → is_other_declared (length roster.capacity) state header.other ≡ true → IsStay roster (stay_for state header)
stay_is roster Writable header is = tt
stay_is roster Clone header is = tt
stay_is roster Leaving header is = server_is roster header.other is
stay_is roster Arriving header is = server_is roster header.other is
stay_is roster Gone header is = server_is roster header.other is
stay_is roster Free header is = server_is roster header.other is
stay_is roster Unknown header is = server_is roster header.other is

pub holding_within : (roster : Roster) (servers : ℕ) (home : ServerId) (server header numbers : List ℕ) (anodes : List Anode) → servers ≡ length roster.capacity
    → (is_name_at 12 header && is_limit (number_at 4 8 header) && is_numbers_page numbers && is_other_declared servers (state_of server header) (byte_at header 73)) ≡ true
    → IsHolding roster (holding_in home server header numbers anodes)
unfolding header_of
holding_within roster servers home server header numbers anodes few is =
    let a = and_parts (is_name_at 12 header && is_limit (number_at 4 8 header) && is_numbers_page numbers) (is_other_declared servers (state_of server header) (byte_at header 73)) is in
    let b = and_parts (is_name_at 12 header && is_limit (number_at 4 8 header)) (is_numbers_page numbers) a.0 in
    let c = and_parts (is_name_at 12 header) (is_limit (number_at 4 8 header)) b.0 in
    let d = and_parts (nat_le 1 (number_at 4 8 header)) (nat_le (number_at 4 8 header) 64) c.1 in
    record {
      stay = stay_is roster (state_of server header) (header_of server header) (sym (λ j. is_other_declared (few j) (state_of server header) (byte_at header 73)) ∙ a.1);
      least = leb-true 1 (number_at 4 8 header) d.0;
      most = leb-true (number_at 4 8 header) 64 d.1;
      records = numbers_kept numbers b.1;
    }

-- and has a name
pub limits_name : (servers : ℕ) (server header numbers : List ℕ)
    → (is_name_at 12 header && is_limit (number_at 4 8 header) && is_numbers_page numbers && is_other_declared servers (state_of server header) (byte_at header 73)) ≡ true → is_name_at 12 header ≡ true
limits_name servers server header numbers is =
    let a = and_parts (is_name_at 12 header && is_limit (number_at 4 8 header) && is_numbers_page numbers) (is_other_declared servers (state_of server header) (byte_at header 73)) is in
    let b = and_parts (is_name_at 12 header && is_limit (number_at 4 8 header)) (is_numbers_page numbers) a.0 in
    (and_parts (is_name_at 12 header) (is_limit (number_at 4 8 header)) b.0).0
