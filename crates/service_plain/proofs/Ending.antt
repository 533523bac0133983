-- How a host ends what it has in use.
use Rattle.std.proofs.Common.{◌≡◌, ℕ, ◌+◌, ◌<◌, ◌==◌, nat_lt, Bool, true, not, List, [], ◌∷◌, ◌++◌, length, take, get_or, refl, sym, ap, ◌∙◌, arith, length-append, add-one}
use Rattle.std.specs.Prelude.{map}
use Rattle.std.specs.List.{list_all}
use Rattle.std.proofs.Math.Seq.{take-suc}
use Rattle.std.proofs.lemmas.Bool.{eq-eqb}
use Rattle.std.proofs.lemmas.Grind.{common_steps}
use Rattle.std.proofs.lemmas.List.{map_push}
use Rattle.std.proofs.lemmas.List.Folds.{list_all-append}
use Rattle.base_types.specs.declared.ids.HostId.{HostId}
use Rattle.tree_calls.specs.declared.entry.Entry.{Entry}
use Rattle.tree_calls.specs.declared.entry.Entry.TheVariants.{Call as Called, Stored, Down, Left}
use Rattle.tree_answers.specs.WellFormed.{IsWellFormed}
use Rattle.service_plain.specs.Uses.{ending}
use Rattle.service_plain.specs.Played.{calls_in, is_own, are_numbered, rests, rooms_free}
use Rattle.service_plain.specs.Underway.{is_aside, is_hers, is_above, ending_of, next_from, Makes, Ends}
use Rattle.service_plain.specs.declared.uses.Use.{Use}
use Rattle.service_plain.specs.declared.past.Past.{Past}
use Rattle.service_plain.proofs.Histories.{all_so, both_true, calls_append, next_append, numbered_append, next_foreign, numbered_foreign, stores_foreign}
use Rattle.service_plain.proofs.Goes.{goes_append, goes_nowhere}

pub all_append : {X : Type 0} (p : X → Bool) (a b : List X) → list_all p a ≡ true → list_all p b ≡ true → list_all p (a ++ b) ≡ true
all_append p a b h k = list_all-append p a b ∙ both_true _ _ h k

pub calls_stores : (entries : List Entry) → list_all is_aside entries ≡ true → calls_in entries ≡ []
calls_stores [] h = refl
calls_stores (Called caller n call reply ∷ entries) h = cc
calls_stores (Stored host fid spans len ∷ entries) h = calls_stores entries h
calls_stores (Down host server ∷ entries) h = cc
calls_stores (Left server id ∷ entries) h = calls_stores entries h

hers_stores : (host : HostId) (entries : List Entry) → list_all is_aside entries ≡ true → list_all (is_hers host) entries ≡ true
hers_stores host = all_so is_aside (is_hers host) by
  where
    by : (entry : Entry) → is_aside entry ≡ true → is_hers host entry ≡ true
    by entry h = rw h refl

above_stores : (n : ℕ) (entries : List Entry) → list_all is_aside entries ≡ true → list_all (is_above n) entries ≡ true
above_stores n = all_so is_aside (is_above n) by
  where
    by : (entry : Entry) → is_aside entry ≡ true → is_above n entry ≡ true
    by (Called caller m call reply) h = cc
    by (Stored host fid spans len) h = refl
    by (Down host server) h = cc
    by (Left server id) h = refl

-- a host's own call among entries that say what became kept
own_self : (host : HostId) → (host.0 == host.0) ≡ true
own_self host = eq-eqb host.0 host.0 refl

pub ends_none : (host : HostId) (made : ℕ) (past : Past) → IsWellFormed past.tree → rests past.tree ≡ true → rooms_free past.tree ≡ true → Ends host made [] past past
ends_none host made past f a r = record { entries = []; goes = goes_nowhere past f a r; calls = refl; hers = refl; numbered = refl; above = refl; next = omega arith }

pub ends_more : (host : HostId) (made k : ℕ) (uses : List Use) (used : Use) (done : Bool) (before between after : Past) → Ends host made uses before between → Makes host k (ending used) done between after →
    k ≡ made + 1 + length uses → Ends host made (uses ++ used ∷ []) before after
ends_more host made k uses used done before between after e m n =
    let call : Entry = Called host k (ending used) m.reply in
    let more : List Entry = call ∷ m.behind in
    let own : is_own host call ≡ true = own_self host in
    let behind : list_all (λ entry. not (is_own host entry)) m.behind ≡ true = stores_foreign host m.behind m.asides in
    let rest : are_numbered host k more ≡ true = rw (own, eq-eqb k k refl) (numbered_foreign host (k + 1) m.behind behind) in
    let after_more : next_from host k more ≡ k + 1 = rw own (next_foreign host (k + 1) m.behind behind) in
    let at : next_from host (made + 1) e.entries ≡ k = e.next ∙ sym n in
    let one : calls_in more ≡ ending_of host used ∷ [] = ap (λ calls. ending_of host used ∷ calls) (calls_stores m.behind m.asides) in
    let to : next_from host (made + 1) (e.entries ++ more) ≡ k + 1 = rw (next_append host (made + 1) e.entries more, at) after_more in
    let above : nat_lt made k ≡ true = grind (arith, common_steps) in
    let len : length (uses ++ used ∷ []) ≡ length uses + 1 = length-append uses (used ∷ []) in
    record {
      entries = e.entries ++ more;
      goes = goes_append before between after e.entries more e.goes m.goes;
      calls = calls_append e.entries more ∙ (ap (λ calls. calls ++ calls_in more) e.calls ∙ (ap (λ calls. map (ending_of host) uses ++ calls) one ∙ sym (map_push (ending_of host) uses used)));
      hers = all_append (is_hers host) e.entries more e.hers (both_true _ _ (rw own refl) (hers_stores host m.behind m.asides));
      numbered = numbered_append host (made + 1) e.entries more e.numbered (rw at rest);
      above = all_append (is_above made) e.entries more e.above (both_true _ _ above (above_stores made m.behind m.asides));
      next = omega arith;
    }

pub take_next : {X : Type 0} (uses : List X) (i : ℕ) (used : X) → i < length uses → used ≡ get_or uses i used → take (i + 1) uses ≡ take i uses ++ used ∷ []
take_next uses i used h e = rw add-one (take-suc uses i used h ∙ ap (λ one. take i uses ++ one ∷ []) (sym e))
