use Rattle.std.proofs.Common.{◌∙◌, sym, ap, map, length, Some, slice_index_or, arith}
use Rattle.std.specs.List.{remove}
use Rattle.std.specs.String.{string_bytes}
use Rattle.dfs_run.specs.Words.{asks_for_journal}
use Rattle.dfs_run.proofs.Asking.{long, name_is, rest_is, no_name, all_stay}
use Rattle.dfs_run.proofs.asked.take_journal.Goals as goal

pub remove-requires : goal.remove-requires
remove-requires c =
    let asks = ap (λ words. asks_for_journal (map string_bytes words)) (sym c.as_slice.ensures.value) ∙ sym c.asks_for_journal.ensures ∙ c.if-asks_for_journal.true in
    omega (arith, long c.args.words.now.items asks, c.as_slice.ensures.len, ap length c.as_slice.ensures.value)

pub remove-requires-then-asks_for_journal : goal.remove-requires-then-asks_for_journal
remove-requires-then-asks_for_journal c =
    let asks = ap (λ words. asks_for_journal (map string_bytes words)) (sym c.as_slice.ensures.value) ∙ sym c.asks_for_journal.ensures ∙ c.if-asks_for_journal.true in
    omega (arith, long c.args.words.now.items asks, c.as_slice.ensures.len, ap length c.as_slice.ensures.value, c.remove.ensures.len)

pub returns-then-asks_for_journal-clause-name : goal.returns-then-asks_for_journal-clause-name
returns-then-asks_for_journal-clause-name c =
    let asks = ap (λ words. asks_for_journal (map string_bytes words)) (sym c.as_slice.ensures.value) ∙ sym c.asks_for_journal.ensures ∙ c.if-asks_for_journal.true in
    let name = c.remove-then-asks_for_journal.result in
    let read = c.remove-then-asks_for_journal.ensures.value ∙ ap (λ words. slice_index_or words 1 name) c.remove.ensures.items in
    ap (λ word. Some (string_bytes word)) read ∙ name_is c.args.words.now.items name asks

pub returns-then-asks_for_journal-clause-rest : goal.returns-then-asks_for_journal-clause-rest
returns-then-asks_for_journal-clause-rest c =
    let asks = ap (λ words. asks_for_journal (map string_bytes words)) (sym c.as_slice.ensures.value) ∙ sym c.asks_for_journal.ensures ∙ c.if-asks_for_journal.true in
    let left = c.remove-then-asks_for_journal.ensures.items ∙ ap (λ words. remove words 1) c.remove.ensures.items in
    ap (λ words. map string_bytes words) left ∙ rest_is c.args.words.now.items asks

pub returns-else-asks_for_journal-clause-name : goal.returns-else-asks_for_journal-clause-name
returns-else-asks_for_journal-clause-name c =
    let asks = ap (λ words. asks_for_journal (map string_bytes words)) (sym c.as_slice.ensures.value) ∙ sym c.asks_for_journal.ensures ∙ c.if-asks_for_journal.false in
    no_name (map string_bytes c.args.words.now.items) asks

pub returns-else-asks_for_journal-clause-rest : goal.returns-else-asks_for_journal-clause-rest
returns-else-asks_for_journal-clause-rest c =
    let asks = ap (λ words. asks_for_journal (map string_bytes words)) (sym c.as_slice.ensures.value) ∙ sym c.asks_for_journal.ensures ∙ c.if-asks_for_journal.false in
    all_stay (map string_bytes c.args.words.now.items) asks
