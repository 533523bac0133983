-- What calls leave of the tables, as the lemmas on doings want it.
use Rattle.std.proofs.Common.{◌≡◌, ℕ, ◌+◌, ◌≤◌, suc, Bool, true, ◌&&◌, ◌==◌, not, if◌then◌else◌, Option, List, []}
use Rattle.std.proofs.Common.{◌∷◌, add-one, eq-eqb, inl, inr, sym, ◌∙◌, ap, subst, arith}
use Rattle.std.specs.Prelude.{nat_lt}
use Rattle.std.specs.List.{filter}
use Rattle.std.proofs.lemmas.Bool.{and_from, and_parts, cases_Bool, eqb-true, false≢true, lt-ltb}
use Rattle.base_types.specs.declared.ids.FilesetId.{FilesetId}
use Rattle.base_types.specs.declared.ids.HostId.{HostId}
use Rattle.base_types.specs.declared.ids.ServerId.{ServerId}
use Rattle.message_types.specs.declared.giving.AppliedGive.{AppliedGive}
use Rattle.message_types.specs.declared.telling.Done.{Done as DoneOf}
use Rattle.token_manager.specs.Grants.{no_grants}
use Rattle.token_manager.specs.Managers.{grants_forgotten, queue_forgotten}
use Rattle.run_rules.specs.Doings.{Doing}
use Rattle.run_rules.specs.Past.{In}
use Rattle.run_rules.specs.declared.applied.Written.{Written}
use Rattle.server_tables.specs.declared.tables.LastChange.{LastChange}
use Rattle.server_tables.specs.declared.tables.LastGive.{LastGive}
use Rattle.server_tables.specs.declared.tables.Tables.{Tables}
use Rattle.server_tables.specs.Answers.{last_written, not_for_change, renewed}
use Rattle.server_tables.specs.Gives.{given, is_for_give}
use Rattle.server_tables.specs.Restarts.{restarted}
use Rattle.server_tables.specs.Standing.{GivesStand}
use Rattle.server_tables.specs.Updates.{begun}
use Rattle.std.specs.Option.{option_or}
use Rattle.server_tables.proofs.Changing.{IsRenewed}
use Rattle.server_tables.proofs.Fetching.{same_host}
use Rattle.server_tables.proofs.Greeting.{in_end, in_front, in_parts}
use Rattle.server_tables.proofs.Queueing.{one_is}
use Rattle.server_tables.proofs.Without.{in_filter, to_filter}

same_fileset : (a b : FilesetId) → (a.0 == b.0) ≡ true → a ≡ b
same_fileset a b e = let q : a.0 ≡ b.0 = eqb-true a.0 b.0 e in λ i. record { 0 = q i }

-- two pairs of a host and a fileset are one, or not
same_pair : (h k : HostId) (f g : FilesetId) → ((h.0 == k.0) && (f.0 == g.0)) ≡ true → (h ≡ k) × (f ≡ g)
same_pair h k f g e = let p = and_parts (h.0 == k.0) (f.0 == g.0) e in (same_host h k p.0, same_fileset f g p.1)

is_pair : (h k : HostId) (f g : FilesetId) → h ≡ k → f ≡ g → ((h.0 == k.0) && (f.0 == g.0)) ≡ true
is_pair h k f g p q =
    and_from (h.0 == k.0) (f.0 == g.0) (eq-eqb h.0 k.0 (ap (λ (x : HostId). x.0) p)) (eq-eqb f.0 g.0
    (ap (λ (x : FilesetId). x.0) q))

other_pair : (h k : HostId) (f g : FilesetId) → not ((h.0 == k.0) && (f.0 == g.0)) ≡ true → h ≡ k → f ≡ g → ⊥
other_pair h k f g e p q = false≢true (ap not (sym (is_pair h k f g p q)) ∙ e)

not_pair : (h k : HostId) (f g : FilesetId) → (h ≡ k → f ≡ g → ⊥) → not ((h.0 == k.0) && (f.0 == g.0)) ≡ true
not_pair h k f g other = elim (cases_Bool ((h.0 == k.0) && (f.0 == g.0))) [
  | inl e ↦ let p = same_pair h k f g e in absurd (other p.0 p.1)
  | inr e ↦ ap not e
]

-- what is noted of an answer renews what was answered last
pub renewed_is : (x : Tables) (host : HostId) (done : DoneOf) (written : Option Written)
    → IsRenewed x.changes (renewed x host done written) (record {
      host = host;
      fileset = done.fileset;
      epoch = x.hosts.epoch;
      done = done;
      written = option_or written (last_written x.changes host done.fileset);
    })
renewed_is x host done written = record {
  has = in_end entry rest;
  of = λ l m. elim (in_parts l rest (entry ∷ []) m) [
    | inl p ↦ let q = in_filter test l x.changes p in inr (q.0, other_pair l.host host l.fileset done.fileset q.1)
    | inr p ↦ inl (one_is l entry p)
  ];
  all = λ l m other. in_front l rest (entry ∷ []) (to_filter test l x.changes m
      (not_pair l.host host l.fileset done.fileset other));
}
  where
    entry : LastChange
    entry = record {
      host = host;
      fileset = done.fileset;
      epoch = x.hosts.epoch;
      done = done;
      written = option_or written (last_written x.changes host done.fileset);
    }

    test : LastChange → Bool
    test = not_for_change host done.fileset

    rest : List LastChange
    rest = filter test x.changes

-- a give-back of a higher number stands for those before it
pub given_stands : (past : List Doing) (server : ServerId) (gives : List LastGive) (host : HostId) (give : AppliedGive)
    → ((l : LastGive) → In l gives → l.host ≡ host → l.give.fileset ≡ give.fileset → l.give.number ≤ give.number)
    → GivesStand past server (record { host = host; give = give } ∷ gives) → GivesStand past server
    (given gives host give)
given_stands past server gives host give below s = record {
  applied = λ l m. elim (in_parts l rest (entry ∷ []) m) [
    | inl p ↦ s.applied l (inr (in_filter test l gives p).0)
    | inr p ↦ s.applied l (inl (one_is l entry p))
  ];
  applied_all = λ h n a. let q = s.applied_all h n a in elim q.1 [
    | inl e ↦ (
      entry,
      in_end entry rest,
      ap (λ (z : LastGive). z.host) (sym e) ∙ q.2,
      ap (λ (z : LastGive). z.give.fileset) (sym e) ∙ q.3,
      subst (λ (z : LastGive). n.number ≤ z.give.number) e q.4,
    )
    | inr m ↦ elim (cases_Bool ((q.0.host.0 == host.0) && (q.0.give.fileset.0 == give.fileset.0))) [
      | inl e ↦ let p = same_pair q.0.host host q.0.give.fileset give.fileset e in (
        entry,
        in_end entry rest,
        sym p.0 ∙ q.2,
        sym p.1 ∙ q.3,
        (let b = below q.0 m p.0 p.1 in let c = q.4 in
            omega arith),
      )
      | inr e ↦ (q.0, in_front q.0 rest (entry ∷ []) (to_filter test q.0 gives m (ap not e)), q.2, q.3, q.4)
    ]
  ];
}
  where
    entry : LastGive
    entry = record { host = host; give = give }

    test : LastGive → Bool
    test l = not (is_for_give host give.fileset l)

    rest : List LastGive
    rest = filter test gives

-- the tables after a restart
pub begun_is : (x : Tables) → x.tokens.grants.table.server ≡ x.server → x.tokens.grants.table.epoch ≡ x.hosts.epoch
    → begun x ≡ restarted x
unfolding grants_forgotten queue_forgotten
begun_is x server epoch =
    let later : nat_lt x.tokens.grants.table.epoch (x.hosts.epoch + 1) ≡ true =
    lt-ltb x.tokens.grants.table.epoch (x.hosts.epoch + 1) (omega arith) in
    let one : x.hosts.epoch + 1 ≡ suc x.hosts.epoch = add-one x.hosts.epoch in
    ap (λ (b : Bool). record x {
      hosts = record x.hosts { epoch = x.hosts.epoch + 1; listed_now = []; reclaimed = [] };
      tokens = record x.tokens {
        grants = if b then no_grants x.tokens.grants.table.server (x.hosts.epoch + 1) else x.tokens.grants;
        queue = if b then [] else x.tokens.queue;
      };
      pending = [];
      stamp = 0;
      recovering = record { claims = []; taken = []; given_up = []; answers = [] };
    }) later
    ∙ ap (λ (v : ServerId × ℕ). record x {
      hosts = record x.hosts { epoch = v.1; listed_now = []; reclaimed = [] };
      tokens = record x.tokens { grants = no_grants v.0 v.1; queue = [] };
      pending = [];
      stamp = 0;
      recovering = record { claims = []; taken = []; given_up = []; answers = [] };
    }) (λ i. (server i, one i))
