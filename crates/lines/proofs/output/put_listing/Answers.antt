-- A text is the one that is printed; a refusal is the file's, and left the buffer for its line.
use Rattle.lines.proofs.OutputLaws.{listed, listing_refused}
use Rattle.lines.proofs.output.put_listing.Goals as goal

pub returns-in-Ok : goal.returns-in-Ok
returns-in-Ok c =
    let all = listed c.args.f.now c.args.text.now c.requires c.in-Ok.ensures.answers c.in-Ok.ensures.leaves in
    record {
      length = all.0;
      line = all.1;
    }

pub returns-in-Err : goal.returns-in-Err
returns-in-Err c =
    let all = listing_refused c.args.f.now c.args.text.now c.requires c.in-Err.ensures.answers c.in-Err.ensures.leaves in
    record {
      length = rw (← all.0) c.put_refusal.ensures.length;
      line = rw (← all.0, ← all.1) c.put_refusal.ensures.line;
    }
