use Rattle.vcl_library.proofs.Tables.{table-made}
use Rattle.vcl_library.proofs.functions.std_entries.Goals as goal

pub returns : goal.returns
returns c =
    rw (c.in_ok-from_array.ensures.items, c.entry.ensures, c.entry-2.ensures, c.entry-3.ensures, c.entry-4.ensures, c.entry-5.ensures, c.entry-6.ensures, c.entry-7.ensures, c.entry-8.ensures, c.entry-9.ensures, c.entry-10.ensures, c.entry-11.ensures, c.entry-12.ensures, c.entry-13.ensures)
    (table-made _ _ _ _ c.in_ok-plain.ensures c.in_ok-jars.ensures c.in_ok-choices.ensures c.in_ok-looks.ensures)
