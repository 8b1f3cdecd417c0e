-- `pack::pack` meets its contract: a refusal of the list's check is handed on; of an accepted list each test decides its
-- place in the promise, and the writers' own promises give the buffers. Assumes nothing.
use Rattle.std.proofs.Common.{◌∙◌}
use Rattle.std.proofs.lemmas.Result.{err_from_is_err_and}
use Rattle.sets.proofs.Answers.{accepted_good}
use Rattle.pack.proofs.Edges.{places_edges, places_runs}
use Rattle.pack.proofs.Outcome.{refused_list, refused_offsets, refused_headers, done}
use Rattle.pack.proofs.pack.Goals as goal

pub returns-in_err-n : goal.returns-in_err-n
returns-in_err-n c =
    let p = err_from_is_err_and c.from_residual.result c.from_residual.ensures.1 in
    rw (p.1, p.2) (refused_list _ _ _ _ c.in_err-n.ensures)

pub returns-then-offsets-need : goal.returns-then-offsets-need
returns-then-offsets-need c =
    let a = accepted_good _ _ c.in_ok-n.ensures in
    rw a.1 (refused_offsets _ _ _ a.0 (rw a.1 at c.if-offsets-need.true))

pub returns-then-headers-runs : goal.returns-then-headers-runs
returns-then-headers-runs c =
    let a = accepted_good _ _ c.in_ok-n.ensures in
    let runs = c.count_runs-runs.ensures ∙ places_runs _ a.0 in
    rw runs (refused_headers _ _ _ a.0 (rw a.1 at c.if-offsets-need.false) (rw runs at c.if-headers-runs.true))

pub returns : goal.returns
returns c =
    let list = c.args.list.now in
    let a = accepted_good _ _ c.in_ok-n.ensures in
    let runs = c.count_runs-runs.ensures ∙ places_runs list a.0 in
    let edges = places_edges list a.0 in
    let d = done list _ _ a.0 (rw a.1 at c.if-offsets-need.false) (rw runs at c.if-headers-runs.false) in
    record {
      answers = rw (runs, a.1) d.answers;
      leaves_headers = rw edges at c.write_headers.ensures ∙ d.leaves_headers;
      leaves_offsets = rw edges at c.write_offsets.ensures ∙ d.leaves_offsets;
    }
