use Rattle.table.proofs.Files.{file_of_its_table, name_for_each_task, table_of_its_file}
use Rattle.table.proofs.Once.{one_load}
use Rattle.table.proofs.Records.{reads_what_is_written, written_as_read}
use Rattle.table.proofs.laws.layout_laws.Goals as goal

pub returns : goal.returns
returns c =
    record {
      written = reads_what_is_written;
      read = written_as_read;
      one = one_load;
      file = file_of_its_table;
      names = name_for_each_task;
      table = table_of_its_file;
    }
