-- Tokens that are granted one behind another.
use Rattle.std.proofs.Common.{◌≡◌, ◌<◌, ◌≤◌, ◌+◌, ℕ, suc, true, false, ◌==◌, ◌&&◌, nat_le, if◌then◌else◌, List}
use Rattle.std.proofs.Common.{[]}
use Rattle.std.proofs.Common.{◌∷◌, ◌++◌, length, drop, get_or, refl, sym, ap, ◌∙◌, subst, arith, append_assoc}
use Rattle.std.proofs.Common.{append-nil}
use Rattle.std.proofs.Math.Seq.{drop-cons}
use Rattle.std.proofs.lemmas.Bool.Decides.{nat_tests}
use Rattle.std.proofs.lemmas.List.Elements.{All-head, All-tail, All-push, All-weaker, filter-append}
use Rattle.std.specs.List.{All, filter}
use Rattle.base_types.specs.declared.ids.HostId.{HostId}
use Rattle.base_types.specs.declared.ids.ServerId.{ServerId}
use Rattle.token_types.specs.declared.token.Need.{Need}
use Rattle.token_types.specs.declared.token.Token.{Token}
use Rattle.token_table.specs.declared.places.Kept.TheVariants.{UpTo}
use Rattle.token_table.specs.Places.{rank, ShelfView}
use Rattle.token_table.specs.Shelves.{IsBefore, IsUpTo, keeps}
use Rattle.token_table.specs.Tables.{token_for, tokens_from}

rank_next : (s e seq : ℕ) → (if (s == s) && (e == e) then seq else 0) ≡ seq
rank_next s e seq = grind (arith, nat_tests)

le_test : (a b : ℕ) → a ≤ b → nat_le a b ≡ true
le_test a b le = grind (arith, nat_tests)

gt_test : (a b : ℕ) → b < a → nat_le a b ≡ false
gt_test a b lt = grind (arith, nat_tests)

all_stay : (server : ServerId) (epoch last : ℕ) (tokens : List Token) → All (IsUpTo server epoch last) tokens →
    filter (keeps server epoch (UpTo last)) tokens ≡ tokens
all_stay server epoch last [] all = refl
all_stay server epoch last (x ∷ xs) all =
    let first = le_test (rank server epoch x.id) last (All-head (IsUpTo server epoch last) x xs all) in
    rw first (ap (λ l. x ∷ l) (all_stay server epoch last xs (All-tail (IsUpTo server epoch last) x xs all)))

-- the tokens after so many of the needs, where those before were `start`
pub record IsRun (start : ShelfView) (last : ℕ) (host : HostId) (needs : List Need) (index : ℕ) (now : ShelfView) :
    Type 0
  where
    pub server : now.server ≡ start.server
    pub epoch : now.epoch ≡ start.epoch
    pub up_to : All (IsUpTo start.server start.epoch (last + index)) now.tokens
    pub ahead : now.tokens ++ tokens_from start.server start.epoch (last + index) host (drop index needs)
        ≡ start.tokens ++ tokens_from start.server start.epoch last host needs
    pub back : filter (keeps start.server start.epoch (UpTo last)) now.tokens ≡ start.tokens

module _ (start : ShelfView) (last : ℕ) (host : HostId) (needs : List Need) where
  pub run_starts : All (IsUpTo start.server start.epoch last) start.tokens → IsRun start last host needs 0 start
  run_starts up_to = record {
    server = refl;
    epoch = refl;
    up_to = subst (λ n. All (IsUpTo start.server start.epoch n) start.tokens) (let e : last ≡ last + 0 = omega arith in
        e)
        up_to;
    ahead = ap (λ n. start.tokens ++ tokens_from start.server start.epoch n host needs)
        (let e : last + 0 ≡ last = omega arith in e);
    back = all_stay start.server start.epoch last start.tokens up_to;
  }

  module _ (index : ℕ) (now : ShelfView) (run : IsRun start last host needs index now) where
    pub before_next : (need : Need) →
        All (IsBefore start.server start.epoch (token_for start.server start.epoch (last + index) host need)) now.tokens
    before_next need = All-weaker (IsUpTo start.server start.epoch (last + index))
        (IsBefore start.server start.epoch (token_for start.server start.epoch (last + index) host need))
        (λ t up. let r = rank_next start.server.0 start.epoch (last + index + 1) in omega (arith, r, up))
        now.tokens run.up_to

    pub run_more : (need : Need) (now' : ShelfView) → index < length needs → get_or needs index need ≡ need →
        now' ≡ record now { tokens = now.tokens ++ token_for start.server start.epoch (last + index) host need ∷ [] } →
        IsRun start last host needs (index + 1) now'
    run_more need now' within is same =
        let token = token_for start.server start.epoch (last + index) host need in
        let r = rank_next start.server.0 start.epoch (last + index + 1) in
        let tokens' : now'.tokens ≡ now.tokens ++ token ∷ [] = ap (λ v. v.tokens) same in
        let cut : drop index needs ≡ need ∷ drop (index + 1) needs =
        (let d = drop-cons needs index need within in
        d ∙ (λ i. is i ∷ drop (let e : suc index ≡ index + 1 = omega arith in e i) needs)) in
        record {
          server = ap (λ v. v.server) same ∙ run.server;
          epoch = ap (λ v. v.epoch) same ∙ run.epoch;
          up_to = subst (λ ts. All (IsUpTo start.server start.epoch (last + (index + 1))) ts) (sym tokens')
              (All-push (IsUpTo start.server start.epoch (last + (index + 1))) now.tokens token
              (All-weaker (IsUpTo start.server start.epoch (last + index))
              (IsUpTo start.server start.epoch (last + (index + 1))) (λ t up. omega (arith, up)) now.tokens run.up_to)
              (omega (arith, r)));
          ahead = (λ i. tokens' i ++ tokens_from start.server start.epoch
              ((let e : last + (index + 1) ≡ last + index + 1 = omega arith in e) i) host (drop (index + 1) needs))
              ∙ append_assoc now.tokens (token ∷ [])
              (tokens_from start.server start.epoch (last + index + 1) host (drop (index + 1) needs))
              ∙ ap (λ ns. now.tokens ++ tokens_from start.server start.epoch (last + index) host ns) (sym cut)
              ∙ run.ahead;
          back = ap (filter (keeps start.server start.epoch (UpTo last))) tokens'
              ∙ filter-append (keeps start.server start.epoch (UpTo last)) now.tokens (token ∷ [])
              ∙ (let no : keeps start.server start.epoch (UpTo last) token ≡ false =
              gt_test (rank start.server start.epoch token.id) last (omega (arith, r)) in
              rw no (append-nil (filter (keeps start.server start.epoch (UpTo last)) now.tokens)))
              ∙ run.back;
        }
